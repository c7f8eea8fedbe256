-- The book computed on small lists of entries, and complete copies on the small chip: 32 main and 16 spare bytes, 4 pages,
-- 4 blocks, 2 logical blocks. Assumes nothing.
use Prim.Native.Nat.{ℕ}
use mathlib.Core.Bool.{true, false}
use mathlib.Core.List.{List, [], ◌∷◌, ◌++◌}
use mathlib.Core.Option.{none, some}
use mathlib.Core.Path.{◌≡◌, refl}
use lib.Count.{ones}
use lib.ListN.{replicate}
use Rattle.geometry.specs.declared.Geometry.{Geometry}
use Rattle.bus_polling.specs.Outcomes.{is_passed}
use Rattle.bus_polling.specs.declared.Outcome.{Outcome}
use Rattle.bus_polling.specs.declared.Outcome.TheVariants.{Passed, Failed}
use Rattle.operations.specs.Trace.{ArrayOperation}
use Rattle.pages.specs.Check.{zero_bits}
use Rattle.pages.specs.Layout.{whole, all_ones, stored_check, counted_check, kind_of, data_kind, table_kind, number_width, is_data_kind, is_table_kind, label_of, number_of, bytes_of, label_bytes, encoded, label}
use Rattle.copies.specs.Pick.{some_below}
use Rattle.copies.specs.Blocks.{is_marked, agrees, complete_to, is_complete}
use Rattle.recovery.specs.Book.{Change, write, erase, entered, note, Account, account, blank_account, changed, mounted, opened, advanced, settled, gone_on, fed}
use Rattle.recovery.specs.Copy.{is_data_program, sent_page, sent_pages, has_copy, is_last_passed, last_passed}
use Rattle.recovery.specs.Recovery.{shown_with}

abbrev small : Geometry
small = record { main = 32; spare = 16; pages = 4; blocks = 4; logical = 2 }

-- a write of logical block 1, page 2, and the account after it was answered so
abbrev wish : Change
wish = write 1 2 (replicate 32 165)

abbrev answered : ℕ → Account
answered answer = fed small (changed wish answer []) (blank_account small)

-- what logical block l, page p has in the book
abbrev page : Account → ℕ → ℕ → List ℕ
page y l p = y.book l p

-- answered 0: its page has the caller's bytes, the others stay, nothing is noted
write-entered : page (answered 0) 1 2 ≡ replicate 32 165
unfolding fed entered
write-entered = refl

write_elsewhere : page (answered 0) 1 1 ++ page (answered 0) 0 2 ≡ replicate 64 255
unfolding fed entered
write_elsewhere = refl

write_unnoted : (answered 0).noted ≡ none
unfolding fed
write_unnoted = refl

-- an erase answered 0: all pages of its logical block are FFh
erase_entered : page (fed small (changed (erase 1) 0 []) (answered 0)) 1 2 ≡ replicate 32 255
unfolding fed entered
erase_entered = refl

-- answered 8 to 11: noted, and no page changes
change_noted : ((answered 8).noted ≡ some (note wish [])) × ((answered 9).noted ≡ some (note wish [])) × ((answered 10).noted ≡ some (note wish [])) × ((answered 11).noted ≡ some (note wish []))
unfolding fed
change_noted = (refl, refl, refl, refl)

change_unentered : page (answered 8) 1 2 ++ page (answered 11) 1 2 ≡ replicate 64 255
unfolding fed
change_unentered = refl

-- other refusals: nothing
refused_nothing : (answered 7 ≡ blank_account small) × (answered 2 ≡ blank_account small)
unfolding fed
refused_nothing = (refl, refl)

-- a mount answered 0: a noted request with a complete copy is entered, one without is not; the note is cleared either way
mount_enters : page (fed small (mounted 0 true) (answered 11)) 1 2 ≡ replicate 32 165
unfolding fed settled entered
mount_enters = refl

mount_drops : page (fed small (mounted 0 false) (answered 11)) 1 2 ≡ replicate 32 255
unfolding fed settled
mount_drops = refl

mount_clears : ((fed small (mounted 0 true) (answered 11)).noted ≡ none) × ((fed small (mounted 0 false) (answered 11)).noted ≡ none)
unfolding fed settled
mount_clears = (refl, refl)

-- a mount answered 1, 10 or 11 keeps book and note
mount_keeps : (fed small (mounted 1 true) (answered 11) ≡ answered 11) × (fed small (mounted 10 true) (answered 11) ≡ answered 11) × (fed small (mounted 11 true) (answered 11) ≡ answered 11)
unfolding fed
mount_keeps = (refl, refl, refl)

-- a data page of logical block 1 under number 2, a program of it in block 2, and the block that holds all four
abbrev data_page_lem : ℕ → ℕ → List ℕ
data_page_lem kind i = encoded 16 (label kind 1 i 2) (replicate 32 165)

abbrev programmed_as : Outcome → ℕ → ℕ → ArrayOperation
programmed_as answer kind i = record { kind = 2; block = 2; page = i; bytes = data_page_lem kind i; before = []; answer = answer }

abbrev programmed : ℕ → ℕ → ArrayOperation
programmed = programmed_as Passed

abbrev sent : ℕ → List ArrayOperation
sent kind = programmed kind 0 ∷ programmed kind 1 ∷ programmed kind 2 ∷ programmed kind 3 ∷ []

abbrev chip : List ℕ → List ℕ
chip last =
    replicate 384 255 ++ (data_page_lem data_kind 0 ++ (data_page_lem data_kind 1 ++ (data_page_lem data_kind 2 ++ (last ++ replicate 192 255))))

-- sent and complete
copy_complete : has_copy small (chip (data_page_lem data_kind 3)) (sent data_kind) ≡ true
unfolding has_copy sent_pages sent_page is_data_program some_below is_complete complete_to agrees is_marked whole all_ones stored_check counted_check kind_of number_width is_data_kind is_table_kind label_of number_of bytes_of label_bytes encoded zero_bits ones
copy_complete = refl

-- sent, and the last page is not whole; complete, and one page was not sent, or was sent as a table's
copy-cut : has_copy small (chip (replicate 48 255)) (sent data_kind) ≡ false
unfolding has_copy sent_pages sent_page is_data_program some_below is_complete complete_to agrees is_marked whole all_ones stored_check counted_check kind_of number_width is_data_kind is_table_kind label_of number_of bytes_of label_bytes encoded zero_bits ones
copy-cut = refl

copy-unsent : has_copy small (chip (data_page_lem data_kind 3)) (programmed data_kind 0 ∷ programmed data_kind 1 ∷ programmed data_kind 2 ∷ []) ≡ false
unfolding has_copy sent_pages sent_page is_data_program some_below kind_of is_data_kind label_bytes bytes_of encoded number_width is_table_kind zero_bits ones
copy-unsent = refl

copy_of_table : has_copy small (chip (data_page_lem data_kind 3)) (sent table_kind) ≡ false
unfolding has_copy sent_pages sent_page is_data_program some_below kind_of is_data_kind label_bytes bytes_of encoded number_width is_table_kind zero_bits ones
copy_of_table = refl

-- a write that is opened: noted from then on, without an operation, and not entered; a refused or protected opening is nothing
abbrev begun : Account
begun = fed small (opened wish 0) (blank_account small)

opening_noted : (begun.noted ≡ some (note wish [])) × (page begun 1 2 ≡ replicate 32 255) × (fed small (opened wish 11) (blank_account small) ≡ begun)
unfolding fed
opening_noted = (refl, refl, refl)

opening_refused : (fed small (opened wish 13) (blank_account small) ≡ blank_account small) × (fed small (opened wish 15) begun ≡ begun) × (fed small (opened wish 7) begun ≡ begun)
unfolding fed
opening_refused = (refl, refl, refl)

-- an advance that does not finish it: the note has the operations of all calls so far
abbrev advancing : ℕ → Account
advancing answer = fed small (advanced answer 0 (programmed data_kind 1 ∷ [])) (fed small (advanced 0 0 (programmed data_kind 0 ∷ [])) begun)

advance_lengthens : advancing 0 ≡ account begun.book (some (note wish (programmed data_kind 0 ∷ programmed data_kind 1 ∷ [])))
unfolding fed gone_on
advance_lengthens = refl

advance-cut : (advancing 11 ≡ advancing 0) × (advancing 8 ≡ advancing 0)
unfolding fed gone_on
advance-cut = (refl, refl)

-- refused it changes nothing, nor does one where nothing is noted
advance-refused : (fed small (advanced 15 0 []) begun ≡ begun) × (fed small (advanced 7 0 []) begun ≡ begun) × (fed small (advanced 0 0 []) (blank_account small) ≡ blank_account small)
unfolding fed gone_on
advance-refused = (refl, refl, refl)

-- one that finishes it: entered, and the note is cleared
advance_enters : (page (fed small (advanced 0 1 (programmed data_kind 1 ∷ [])) (advancing 0)) 1 2 ≡ replicate 32 165) × ((fed small (advanced 0 1 []) (advancing 0)).noted ≡ none)
unfolding fed gone_on entered
advance_enters = (refl, refl)

-- a mount settles the open write by the operations of all its calls
mount_settles : (page (fed small (mounted 0 true) (advancing 0)) 1 2 ≡ replicate 32 165) × (page (fed small (mounted 0 false) (advancing 0)) 1 2 ≡ replicate 32 255)
unfolding fed gone_on settled entered
mount_settles = (refl, refl)

-- the new copy is filled with its last page, a data page that passed
copy-filled : (last_passed small (sent data_kind) ≡ true) × (last_passed small (programmed data_kind 0 ∷ programmed data_kind 1 ∷ programmed data_kind 2 ∷ []) ≡ false) × (last_passed small (sent table_kind) ≡ false) × (last_passed small (programmed_as Failed data_kind 3 ∷ []) ≡ false)
unfolding last_passed is_last_passed is_passed kind_of is_data_kind label_bytes bytes_of encoded number_width is_table_kind zero_bits ones
copy-filled = (refl, refl, refl, refl)

-- reads show the old bytes until then, and then the new ones
abbrev shown_after : List ArrayOperation → List ℕ
shown_after os = shown_with small (some (note wish os)) (blank_account small).book 1 2

shown_bytes : (shown_after (programmed data_kind 0 ∷ programmed data_kind 1 ∷ programmed data_kind 2 ∷ []) ≡ replicate 32 255) × (shown_after (sent data_kind) ≡ replicate 32 165)
unfolding shown_with entered last_passed is_last_passed is_passed kind_of is_data_kind label_bytes bytes_of encoded number_width is_table_kind zero_bits ones
shown_bytes = (refl, refl)
