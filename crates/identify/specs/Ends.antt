-- How the call ends, told without its cycles: by the length of the page, the cycles allowed and the first fate word.
use Rattle.std.specs.Prelude.{ℕ, ◌+◌, cond, List, [], ◌≡◌, eqb, ltb, length}
use Rattle.chip_interface.specs.Interface.{fate_word, busy_of}
use Rattle.chip_array.specs.Device.{Device, setting}
use Rattle.bus.specs.Line.{run, Legal}
use Rattle.chip_laws.specs.Lengths.{SameLengths}
use Rattle.bus_polling.specs.declared.Outcome.{Outcome}
use Rattle.bus_polling.specs.declared.Outcome.TheVariants.{Passed, Silent, Cut}
use Rattle.operations.specs.Ends.{polls_for}
use Rattle.parameters.specs.Page.{told}
use Rattle.state.specs.State.{blank}
use Rattle.state.specs.declared.State.{State}
use Rattle.request.specs.Call.{Performed, result_of, sent_in, call_line}
use Rattle.identify.specs.Identify.{Identified, no_sizes, unknown, parameter_bytes}

-- status reads that the first fate word answers busy
abbrev pub busy_reads : List ℕ → ℕ
busy_reads fates = busy_of (fate_word fates 0)

-- its cycles if it is not cut: three of the reset, ECh, 00h, 70h and the status reads, and if it is ready in time 00h and the bytes
abbrev pub identify_total : List ℕ → ℕ
identify_total fates = 3 + (3 + polls_for (busy_reads fates)) + cond (ltb (busy_reads fates) 256) (1 + parameter_bytes) 0

abbrev pub identify_outcome : List ℕ → ℕ → Outcome
identify_outcome fates n = cond (ltb n (identify_total fates)) Cut (cond (ltb (busy_reads fates) 256) Passed Silent)

-- one of these: the page has another length; cut; silent; told
abbrev pub by_end : {A : Type 0} → List ℕ → ℕ → List ℕ → A → A → A → A → A
by_end fates n page unfit cut silent told =
    cond (eqb (length page) parameter_bytes)
    (cond (ltb n (identify_total fates)) cut (cond (ltb (busy_reads fates) 256) told silent))
    unfit

pub record EndsSo (fates : List ℕ) (d : Device) (n : ℕ) (state : State) (page : List ℕ) (logical : ℕ) (r : Identified) : Type 0 where
  pub answer_is : r.returned.answer ≡ by_end fates n page 1 11 10 (told page logical).answer
  pub state_is : r.returned.state ≡ by_end fates n page state (blank 2) (blank 2) state
  pub sizes_are : r.sizes ≡ by_end fates n page no_sizes no_sizes no_sizes (told page logical).sizes
  pub sent_is : r.returned.sent ≡ by_end fates n page 0 n (identify_total fates) (identify_total fates)
  pub same_array : r.returned.chip.array ≡ d.array
  pub same_history : r.returned.chip.history ≡ d.history

-- its cycles, none where the page has another length: each is legal where it is sent, all of them lead to the chip that is left, and
-- they are counted; array, register and history are as long as they were
pub record SentSo (mask fates : List ℕ) (d : Device) (n : ℕ) (page : List ℕ) (r : Performed Identified) : Type 0 where
  pub each_legal : Legal (setting unknown mask fates) (call_line d n).chip (sent_in r)
  pub leads : length page ≡ parameter_bytes → run (setting unknown mask fates) (call_line d n).chip (sent_in r) ≡ (result_of r).returned.chip
  pub none_sent_fact : (length page ≡ parameter_bytes → ⊥) → (r.cycles ≡ []) × ((result_of r).returned.chip ≡ d)
  pub sent_is : (result_of r).returned.sent ≡ length (sent_in r)
  pub same_lengths : SameLengths d (result_of r).returned.chip

-- the answers that there are
pub data IdentifyAnswer : ℕ → Type 0 where
  is_done : IdentifyAnswer 0
  is_geometry : IdentifyAnswer 1
  is_silent_fact : IdentifyAnswer 10
  is_cut : IdentifyAnswer 11
  is_untold : IdentifyAnswer 12
