-- The table of refused cycles, computed: each cycle that leads to a row is legal, and the row's cycle changes nothing but the flag.
-- Assumes nothing.
use mathlib.Core.List.{List, [], ◌∷◌, map}
use mathlib.Core.Path.{◌≡◌, refl}
use native.Mathlib.Omega.{arith}
use Rattle.chip_interface.specs.Interface.{begun, status_mode, read_mode, plain_command, address_fits, latched, addressed, fate_word, next_fate, started, parameter_addressed}
use Rattle.chip_interface.specs.Refused.{latching}
use Rattle.chip_array.specs.Device.{Device, Setting, fitting, read_started, program_started, erase_started, completed}
use Rattle.chip.specs.Chip.{Cycle, is_confirm, confirmed, confirmable, commanded, data_taken, data_given, parameter_given, finished, status_read, exec}
use Rattle.chip.specs.Refused.{flags_after}
use Rattle.cells.specs.Cells.{programmed, weakened, raised}
use Rattle.cells.specs.Part.{put}
use Rattle.bus.specs.Line.{run}
use Rattle.bus.proofs.LegalLaws.{illegal_keeps, legal_run}
use Rattle.chip_laws.specs.Refused.{Place, flags, all_as, RefusedAt, Refused, TakenAt, Taken, refusals, accepted}

flags-refused : flags refusals ≡ all_as 1 refusals
unfolding flags flags_after all_as latching begun status_mode read_mode plain_command address_fits latched addressed fate_word next_fate started parameter_addressed fitting read_started program_started erase_started completed is_confirm confirmed confirmable commanded data_taken data_given parameter_given finished status_read exec programmed weakened raised put run
flags-refused = refl

flags-accepted : flags accepted ≡ all_as 0 accepted
unfolding flags flags_after all_as latching begun status_mode read_mode plain_command address_fits latched addressed fate_word next_fate started parameter_addressed fitting read_started program_started erase_started completed is_confirm confirmed confirmable commanded data_taken data_given parameter_given finished status_read exec programmed weakened raised put run
flags-accepted = refl

module _ (s : Setting) (d : Device) where
  refused_by_flags : (cs : List Cycle) → d.interface.illegal ≡ 0 → flags_after s d cs ≡ map (λ (c : Cycle). 1) cs → RefusedAt s d cs
  unfolding flags_after
  refused_by_flags [] e f = tt
  refused_by_flags (c ∷ cs) e f =
      let one : (exec s d c).interface.illegal ≡ 1 = cc in
      let rest : flags_after s d cs ≡ map (λ (c : Cycle). 1) cs = cc in
      (illegal_keeps s d c e (λ z. omega (arith, z)), refused_by_flags cs e rest)

  taken_by_flags : (cs : List Cycle) → flags_after s d cs ≡ map (λ (c : Cycle). 0) cs → TakenAt s d cs
  unfolding flags_after
  taken_by_flags [] f = tt
  taken_by_flags (c ∷ cs) f =
      let none : (exec s d c).interface.illegal ≡ 0 = cc in
      let rest : flags_after s d cs ≡ map (λ (c : Cycle). 0) cs = cc in
      (none, taken_by_flags cs rest)

all-refused : (ps : List Place) → flags ps ≡ all_as 1 ps → Refused ps
unfolding flags all_as
all-refused [] f = tt
all-refused (p ∷ ps) f =
    let there = run p.setting p.chip p.before in
    let legal : there.interface.illegal ≡ 0 = cc in
    let here : flags_after p.setting there p.cycles ≡ map (λ (c : Cycle). 1) p.cycles = cc in
    let rest : flags ps ≡ all_as 1 ps = cc in
    ((legal_run p.setting p.chip p.before legal, refused_by_flags p.setting there p.cycles legal here), all-refused ps rest)

all-taken : (ps : List Place) → flags ps ≡ all_as 0 ps → Taken ps
unfolding flags all_as
all-taken [] f = tt
all-taken (p ∷ ps) f =
    let there = run p.setting p.chip p.before in
    let legal : there.interface.illegal ≡ 0 = cc in
    let here : flags_after p.setting there p.cycles ≡ map (λ (c : Cycle). 0) p.cycles = cc in
    let rest : flags ps ≡ all_as 0 ps = cc in
    ((legal_run p.setting p.chip p.before legal, taken_by_flags p.setting there p.cycles here), all-taken ps rest)

pub refusals-refused : Refused refusals
refusals-refused = all-refused refusals flags-refused

pub accepted-taken : Taken accepted
accepted-taken = all-taken accepted flags-accepted
