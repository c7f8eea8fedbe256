-- Status reads until the chip is ready, and how an operation ended.
use Rattle.std.specs.Prelude.{ℕ, zero, suc, ◌/◌, ◌%◌, Bool, false, cond, List, eqb, replicate}
use Rattle.chip_array.specs.Device.{Device, Setting}
use Rattle.chip.specs.Chip.{Cycle, exec}
use Rattle.chip.specs.Chip.Cycle.{status}
use Rattle.bus.specs.Line.{Line, send, goes_on}
use Rattle.bus_polling.specs.Outcomes.{guarded}
use Rattle.bus_polling.specs.declared.Outcome.{Outcome}
use Rattle.bus_polling.specs.declared.Outcome.TheVariants.{Passed, Failed, Silent, Cut, Illegal}
use Rattle.chip_interface.specs.Interface.{busy_status_phase}

-- after a status read: busy still, and nothing refused
unfoldable pub waiting : Device → Bool
waiting d = cond (eqb d.interface.phase busy_status_phase) (eqb d.interface.illegal 0) false

-- how many status reads are sent, at most n, until one reports ready
unfoldable pub polls : Setting → ℕ → Device → ℕ
polls s zero d = zero
polls s (suc n) d = let more = polls s n (exec s d status) in suc (cond (waiting (exec s d status)) more zero)

abbrev pub status_reads : Setting → Device → List Cycle
status_reads s d = replicate (polls s 256 d) status

-- how an operation ended, read off the line it leaves
unfoldable pub outcome_of : Line → Outcome
outcome_of l =
    cond (eqb l.cut 0)
    (cond (eqb l.chip.interface.illegal 0)
    (cond (eqb l.chip.interface.phase busy_status_phase) Silent (cond (eqb l.chip.interface.failed 0) Passed Failed))
    Illegal)
    Cut

-- how a program or an erase ended: what was answered with the write-protect line low is neither passed nor failed
abbrev pub answer_of : Line → Outcome
answer_of l = cond (eqb l.chip.interface.protected 0) (outcome_of l) (guarded (outcome_of l))

-- how a run of cycles ended that asks for no status
unfoldable pub ended_as : Line → Outcome
ended_as l = cond (eqb l.cut 0) (cond (eqb l.chip.interface.illegal 0) Passed Illegal) Cut

-- status bit 6, and bit 0 of a status that is ready
unfoldable pub ready : ℕ → Bool
ready byte = eqb (byte / 64 % 2) 1

unfoldable pub judged : ℕ → Outcome
judged byte = cond (eqb (byte % 2) 0) Passed Failed

-- status bit 7: the write-protect line is high
unfoldable pub writable : ℕ → Bool
writable byte = eqb (byte / 128 % 2) 1

-- status reads one by one: until ready, cut or refused, at most n
unfoldable pub polled : Setting → ℕ → Line → Line
polled s zero l = l
polled s (suc n) l =
    let more = polled s n (send s l status) in
    cond (goes_on (send s l status))
    (cond (eqb (send s l status).chip.interface.phase busy_status_phase) more (send s l status))
    (send s l status)
