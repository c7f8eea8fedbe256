-- Tests on how an operation ended.
use Rattle.std.specs.Prelude.{Bool, true, false}
use Rattle.bus_polling.specs.declared.Outcome.{Outcome}
use Rattle.bus_polling.specs.declared.Outcome.TheVariants.{Passed, Failed, Silent, Cut, Illegal, Protected}

unfoldable pub is_passed : Outcome → Bool
is_passed Passed = true
is_passed Failed = false
is_passed Silent = false
is_passed Cut = false
is_passed Illegal = false
is_passed Protected = false

unfoldable pub is_failed : Outcome → Bool
is_failed Passed = false
is_failed Failed = true
is_failed Silent = false
is_failed Cut = false
is_failed Illegal = false
is_failed Protected = false

unfoldable pub is_silent : Outcome → Bool
is_silent Passed = false
is_silent Failed = false
is_silent Silent = true
is_silent Cut = false
is_silent Illegal = false
is_silent Protected = false

unfoldable pub is_cut_off : Outcome → Bool
is_cut_off Passed = false
is_cut_off Failed = false
is_cut_off Silent = false
is_cut_off Cut = true
is_cut_off Illegal = false
is_cut_off Protected = false

unfoldable pub is_illegal : Outcome → Bool
is_illegal Passed = false
is_illegal Failed = false
is_illegal Silent = false
is_illegal Cut = false
is_illegal Illegal = true
is_illegal Protected = false

unfoldable pub is_protected : Outcome → Bool
is_protected Passed = false
is_protected Failed = false
is_protected Silent = false
is_protected Cut = false
is_protected Illegal = false
is_protected Protected = true

-- a program or an erase that was answered on a protected chip
unfoldable pub guarded : Outcome → Outcome
guarded Passed = Protected
guarded Failed = Protected
guarded Silent = Silent
guarded Cut = Cut
guarded Illegal = Illegal
guarded Protected = Protected

-- ready was reported: the chip takes the next command
unfoldable pub answered : Outcome → Bool
answered Passed = true
answered Failed = true
answered Silent = false
answered Cut = false
answered Illegal = false
answered Protected = true

-- how a reset or a read can end: passed, silent or cut
unfoldable pub is_read_end : Outcome → Bool
is_read_end Passed = true
is_read_end Failed = false
is_read_end Silent = true
is_read_end Cut = true
is_read_end Illegal = false
is_read_end Protected = false
