-- The bus with the cycles allowed before a cut: what a cycle and a list of cycles leave, and which of them are sent.
use Rattle.std.specs.Prelude.{ℕ, ◌-◌, Bool, true, false, cond, not, List, [], ◌∷◌, ◌≡◌, eqb, ltb}
use Rattle.chip_interface.specs.declared.Interface.{Interface}
use Rattle.bus.specs.declared.Bus.{Bus}
use Rattle.chip_array.specs.Device.{Device, Setting, device}
use Rattle.chip.specs.Chip.{Cycle, exec, is_confirm, data_byte, parameter_byte, status_shown}
use Rattle.chip.specs.Chip.Cycle.{command, address, data_in, data_out, status, parameter_address, parameter_out}

-- cut is 1 once a cycle was due and none was left
pub record Line : Type 0 where
  pub chip : Device
  pub left : ℕ
  pub cut : ℕ

abbrev pub line : Bus → List ℕ → List ℕ → List ℕ → Line
line b a r h = record { chip = device b.interface a r h; left = b.left; cut = b.cut }

-- a cycle is sent if none was cut off or answered illegal before it, and one is left
unfoldable pub may_go : ℕ → ℕ → ℕ → Bool
may_go cut illegal left = cond (eqb cut 0) (cond (eqb illegal 0) (ltb 0 left) false) false

abbrev pub admits : Line → Bool
admits l = may_go l.cut l.chip.interface.illegal l.left

-- otherwise nothing is sent, and where the allowance was the reason the run is cut
unfoldable pub cut_after : ℕ → ℕ → ℕ
cut_after cut illegal = cond (eqb cut 0) (cond (eqb illegal 0) 1 0) cut

abbrev pub blocked : Line → Line
blocked l = record { chip = l.chip; left = l.left; cut = cut_after l.cut l.chip.interface.illegal }

abbrev pub spent : Line → Device → Line
spent l d = record { chip = d; left = l.left - 1; cut = l.cut }

-- a call that may send n cycles
abbrev pub new_bus : Interface → ℕ → Bus
new_bus i n = record { interface = i; left = n; cut = 0 }

-- blocked and spent, of the bus alone
abbrev pub blocked_bus : Bus → Bus
blocked_bus b =
    record { interface = b.interface; left = b.left; cut = cut_after b.cut b.interface.illegal }

abbrev pub spent_bus : Bus → Interface → Bus
spent_bus b i = record { interface = i; left = b.left - 1; cut = b.cut }

-- one cycle
unfoldable pub send : Setting → Line → Cycle → Line
send s l c = cond (admits l) (spent l (exec s l.chip c)) (blocked l)

-- the byte that a data output cycle, one of the parameter page, and a status read put out, 0 where it is not sent
unfoldable pub byte_out : Line → ℕ
byte_out l = cond (admits l) (data_byte l.chip) 0

unfoldable pub parameter_byte_out : List ℕ → Line → ℕ
parameter_byte_out page l = cond (admits l) (parameter_byte page l.chip.interface) 0

unfoldable pub status_out : Line → ℕ
status_out l = cond (admits l) (status_shown l.chip.interface) 0

-- a list of cycles
unfoldable pub send_all : Setting → Line → List Cycle → Line
send_all s l [] = l
send_all s l (c ∷ cs) = send_all s (send s l c) cs

-- those of the list that are sent
unfoldable pub sent : Setting → Line → List Cycle → List Cycle
sent s l [] = []
sent s l (c ∷ cs) = cond (admits l) (c ∷ sent s (send s l c) cs) []

-- the chip after all cycles of a list, with no cut
unfoldable pub run : Setting → Device → List Cycle → Device
run s d [] = d
run s d (c ∷ cs) = run s (exec s d c) cs

-- no cycle was cut off or answered illegal
unfoldable pub goes_on : Line → Bool
goes_on l = cond (eqb l.cut 0) (eqb l.chip.interface.illegal 0) false

pub record Going (l : Line) : Type 0 where
  pub uncut : l.cut ≡ 0
  pub legal : l.chip.interface.illegal ≡ 0

-- no cycle of the list is answered illegal
abbrev pub Legal : Setting → Device → List Cycle → Type 0
Legal s d [] = Unit {0}
Legal s d (c ∷ cs) = ((exec s d c).interface.illegal ≡ 0) × Legal s (exec s d c) cs

-- a run that is not cut, and one that is
abbrev pub uncut_line : Device → ℕ → Line
uncut_line d n = record { chip = d; left = n; cut = 0 }

abbrev pub cut_line : Device → Line
cut_line d = record { chip = d; left = 0; cut = 1 }

-- cycles that change neither the array nor the history and take no fate word
unfoldable pub still : Cycle → Bool
still (command code) = not (is_confirm code)
still (address byte) = true
still (data_in byte) = true
still data_out = true
still status = false
still (parameter_address byte) = false
still (parameter_out page) = true

abbrev pub AllStill : List Cycle → Type 0
AllStill [] = Unit {0}
AllStill (c ∷ cs) = (still c ≡ true) × AllStill cs

pub record Quiet (d e : Device) : Type 0 where
  pub array : e.array ≡ d.array
  pub history : e.history ≡ d.history
  pub fate : e.interface.fate ≡ d.interface.fate
