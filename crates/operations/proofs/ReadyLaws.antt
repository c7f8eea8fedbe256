-- An operation that changes nothing on the chip and does not fail, and the cycles that follow once it is ready, wherever it is cut: a read
-- and its data output, ECh and the output of the parameter page.
use Prim.Native.Nat.{ℕ, ◌+◌, ◌-◌, ◌<◌, ◌≤◌}
use mathlib.Core.Bool.{Bool, true, false, cond, false≢true}
use mathlib.Core.List.{List, [], ◌++◌, append-nil}
use mathlib.Core.Path.{◌≡◌, refl, sym, ap, ap₂, ◌∙◌}
use native.Mathlib.Nat.{add-zero}
use native.Mathlib.Omega.{arith}
use borrow.Author.Tests.{eq-eqb, lt-leb, lt-ltb, le-ltb, ltb-true, ltb-false}
use borrow.Table.Steps.{cases}
use lib.Dec.{leb, ltb}
use lib.ListN.{length, take}
use Rattle.chip_interface.specs.Interface.{busy_of, next_fate}
use Rattle.chip_array.specs.Device.{Device, Setting}
use Rattle.chip.specs.Chip.{Cycle}
use Rattle.bus.specs.Line.{Line, run, send_all, uncut_line, cut_line, AllStill, Quiet, Legal}
use Rattle.bus.proofs.LineLaws.{send_all_append, run_uncut, run_cut}
use Rattle.bus.proofs.LegalLaws.{legal_run, legal_take}
use Rattle.bus.proofs.QuietLaws.{quiet_run, still-take}
use Rattle.bus_polling.specs.Outcomes.{is_passed}
use Rattle.bus_polling.specs.Polling.{outcome_of, ended_as}
use Rattle.bus_sequences.specs.Cycles.{started_cycles, when_ready, when_ready_outcome}
use Rattle.operations.specs.Ends.{End, end_of, ends_as, passes, confirmed_end, ready_end, end_of_ready, ready_total, total_for, word_for}
use Rattle.operations.proofs.ConfirmLaws.{confirmed_legal, through}
use Rattle.operations.proofs.EndLaws.{Effect, effect_ends, same_end}

-- d₂ after the cycle that starts it, d₄ once ready is reported, last after the rest
pub record Followed (s : Setting) (d : Device) (first : List Cycle) (start : Cycle) (d₂ d₄ last : Device) (rest : List Cycle) : Type 0 where
  pub effect : Effect s d first start 1 d₂ d₄ d.array d.history
  pub same_array : d₂.array ≡ d.array
  pub same_history : d₂.history ≡ d.history
  pub rest_is : run s d₄ rest ≡ last
  pub rest_still : AllStill rest
  pub last_legal : last.interface.illegal ≡ 0

module _ (s : Setting) (d : Device) (left : ℕ) (first : List Cycle) (start : Cycle) (d₂ d₄ last : Device) (rest : List Cycle) (p : Followed s d first start d₂ d₄ last rest) where
  abbrev line : Line
  line = uncut_line d left

  abbrev load : List Cycle
  load = started_cycles s line first start

  abbrev final : Line
  final = send_all s line (when_ready s line load rest)

  abbrev total : ℕ
  total = total_for s d (length first)

  -- cycles left once ready is reported
  abbrev more : ℕ
  more = left - total

  load_end_fact : end_of (send_all s line load) ≡ confirmed_end s line 1 (length first) d.array d.history d.array d.history
  load_end_fact =
      effect_ends s d first start 1 d₂ d₄ d.array d.history p.effect left
      ∙ ap₂ (λ (a h : List ℕ). confirmed_end s line 1 (length first) a h d.array d.history) p.same_array p.same_history

  pub load_outcome : outcome_of (send_all s line load) ≡ ends_as s line 1 (length first)
  unfolding end_of confirmed_end
  load_outcome = ap (λ (x : End). x.outcome) load_end_fact

  loaded_array : d₄.array ≡ d.array
  loaded_array = p.effect.then_array ∙ rw p.effect.failed_is

  loaded_history : d₄.history ≡ d.history
  loaded_history = p.effect.then_history ∙ rw p.effect.failed_is

  loaded_fate : d₄.interface.fate ≡ next_fate s.fates d.interface.fate
  loaded_fate = p.effect.then_fate ∙ p.effect.fate_is

  loaded_legal : d₄.interface.illegal ≡ 0
  loaded_legal = p.effect.confirmed.still_legal

  rest_legal : Legal s d₄ rest
  rest_legal = legal_run s d₄ rest (ap (λ (x : Device). x.interface.illegal) p.rest_is ∙ p.last_legal)

  quiet : (k : ℕ) → Quiet d₄ (run s d₄ (take k rest))
  quiet k = quiet_run s d₄ (take k rest) (still-take k rest p.rest_still)

  quiet_last : Quiet d₄ (run s d₄ rest)
  quiet_last = quiet_run s d₄ rest p.rest_still

  -- where ready is not reported in time nothing follows
  unpassed_line : is_passed (ends_as s line 1 (length first)) ≡ false → final ≡ send_all s line load
  unpassed_line h =
      ap (λ (b : Bool). send_all s line (load ++ cond b rest [])) (ap is_passed load_outcome ∙ h)
      ∙ ap (send_all s line) (append-nil load)

  -- ready is reported in time
  loaded_line : total ≤ left → busy_of (word_for s d) < 256 → send_all s line load ≡ uncut_line d₄ more
  loaded_line t b =
      let u = lt-ltb (busy_of (word_for s d)) 256 b in
      let m : length first + 2 + (busy_of (word_for s d) + 1) ≤ left = rw u at t in
      through s d first start d₂ d₄ p.effect.confirmed left (rw p.effect.busy_is b) (rw p.effect.busy_is m)
      ∙ rw (p.effect.busy_is, u)

  pub is_passed_lem : total ≤ left → busy_of (word_for s d) < 256 → is_passed (ends_as s line 1 (length first)) ≡ true
  unfolding is_passed
  is_passed_lem t b = rw (le-ltb left total t, lt-ltb (busy_of (word_for s d)) 256 b)

  passed_line : total ≤ left → busy_of (word_for s d) < 256 → final ≡ send_all s (uncut_line d₄ more) rest
  passed_line t b =
      ap (λ (x : Bool). send_all s line (load ++ cond x rest [])) (ap is_passed load_outcome ∙ is_passed_lem t b)
      ∙ send_all_append s line load rest
      ∙ ap (λ (x : Line). send_all s x rest) (loaded_line t b)

  same_arms : (b : Bool) (xs : List ℕ) → cond b xs xs ≡ xs
  same_arms true xs = refl
  same_arms false xs = refl

  -- how it ended, where ready is not reported in time and where it is
  unpassed_outcome : is_passed (ends_as s line 1 (length first)) ≡ false → when_ready_outcome s line load rest ≡ ends_as s line 1 (length first)
  unpassed_outcome h = rw (ap is_passed load_outcome ∙ h) load_outcome

  passed_outcome : total ≤ left → busy_of (word_for s d) < 256 → when_ready_outcome s line load rest ≡ ended_as final
  passed_outcome t b = rw (ap is_passed load_outcome ∙ is_passed_lem t b)

  unpassed : is_passed (ends_as s line 1 (length first)) ≡ false → ends_as s line 1 (length first) ≡ (ready_end s line (length first) (length rest)).outcome → left - total ≡ left - ready_total s d (length first) (length rest) → end_of_ready s line load rest ≡ ready_end s line (length first) (length rest)
  unfolding confirmed_end end_of
  unpassed h o w =
      same_end (unpassed_outcome h ∙ o)
      (ap (λ (x : Line). x.chip.array) (unpassed_line h) ∙ ap (λ (x : End). x.array) load_end_fact
      ∙ ap (cond (leb left (length first)) d.array) (same_arms (passes s line 1 (length first)) d.array) ∙ same_arms (leb left (length first)) d.array)
      (ap (λ (x : Line). x.chip.history) (unpassed_line h) ∙ ap (λ (x : End). x.history) load_end_fact
      ∙ ap (cond (leb left (length first)) d.history) (same_arms (passes s line 1 (length first)) d.history) ∙ same_arms (leb left (length first)) d.history)
      (ap (λ (x : Line). x.left) (unpassed_line h) ∙ ap (λ (x : End). x.left) load_end_fact ∙ w)
      (ap (λ (x : Line). x.chip.interface.fate) (unpassed_line h) ∙ ap (λ (x : End). x.fate) load_end_fact)

  -- the four ways it ends
  unpassed_cut : ltb left total ≡ true → is_passed (ends_as s line 1 (length first)) ≡ false
  unfolding is_passed
  unpassed_cut t = rw t

  unpassed_silent : ltb left total ≡ false → ltb (busy_of (word_for s d)) 256 ≡ false → is_passed (ends_as s line 1 (length first)) ≡ false
  unfolding is_passed
  unpassed_silent t u = rw (t, u)

  ends_cut : left < total → end_of_ready s line load rest ≡ ready_end s line (length first) (length rest)
  ends_cut h =
      let t = lt-ltb left total h in
      unpassed (unpassed_cut t) (rw (t, lt-ltb left (ready_total s d (length first) (length rest)) (omega arith))) (omega arith)

  ends_silent : total ≤ left → 256 ≤ busy_of (word_for s d) → end_of_ready s line load rest ≡ ready_end s line (length first) (length rest)
  ends_silent h k =
      let t = le-ltb left total h in
      let b = le-ltb (busy_of (word_for s d)) 256 k in
      let z : ready_total s d (length first) (length rest) ≡ total = rw b (add-zero _) in
      unpassed (unpassed_silent t b) (rw (t, z, t, b)) (rw z)

  whole : total ≤ left → busy_of (word_for s d) < 256 → length rest ≤ more → final ≡ uncut_line last (more - length rest)
  whole t b m =
      passed_line t b
      ∙ run_uncut s d₄ more rest loaded_legal rest_legal m
      ∙ ap (λ (x : Device). uncut_line x (more - length rest)) p.rest_is

  broken : total ≤ left → busy_of (word_for s d) < 256 → more < length rest → final ≡ cut_line (run s d₄ (take more rest))
  broken t b m = passed_line t b ∙ run_cut s d₄ more rest loaded_legal rest_legal m

  total_is : busy_of (word_for s d) < 256 → ready_total s d (length first) (length rest) ≡ total + length rest
  total_is b = rw (lt-ltb (busy_of (word_for s d)) 256 b)

  later : total ≤ left → leb left (length first) ≡ false
  later t = lt-leb left (length first) (omega arith)

  last_quiet : Quiet d₄ last
  last_quiet =
      record {
        array = ap (λ (x : Device). x.array) (sym p.rest_is) ∙ quiet_last.array;
        history = ap (λ (x : Device). x.history) (sym p.rest_is) ∙ quiet_last.history;
        fate = ap (λ (x : Device). x.interface.fate) (sym p.rest_is) ∙ quiet_last.fate;
      }

  ends_whole_fact : total ≤ left → busy_of (word_for s d) < 256 → length rest ≤ more → end_of_ready s line load rest ≡ ready_end s line (length first) (length rest)
  unfolding ended_as
  ends_whole_fact t b m =
      let e = whole t b m in
      same_end
      (passed_outcome t b ∙ ap ended_as e
      ∙ rw (eq-eqb _ _ p.last_legal, le-ltb left (ready_total s d (length first) (length rest)) (omega (arith, total_is b)), lt-ltb (busy_of (word_for s d)) 256 b))
      (ap (λ (x : Line). x.chip.array) e ∙ last_quiet.array ∙ loaded_array)
      (ap (λ (x : Line). x.chip.history) e ∙ last_quiet.history ∙ loaded_history)
      (ap (λ (x : Line). x.left) e ∙ omega (arith, total_is b))
      (ap (λ (x : Line). x.chip.interface.fate) e ∙ last_quiet.fate ∙ loaded_fate ∙ rw (later t))

  ends_broken : total ≤ left → busy_of (word_for s d) < 256 → more < length rest → end_of_ready s line load rest ≡ ready_end s line (length first) (length rest)
  unfolding ended_as
  ends_broken t b m =
      let e = broken t b m in
      let q = quiet more in
      same_end
      (passed_outcome t b ∙ ap ended_as e ∙ rw (lt-ltb left (ready_total s d (length first) (length rest)) (omega (arith, total_is b))))
      (ap (λ (x : Line). x.chip.array) e ∙ q.array ∙ loaded_array)
      (ap (λ (x : Line). x.chip.history) e ∙ q.history ∙ loaded_history)
      (ap (λ (x : Line). x.left) e ∙ omega (arith, total_is b))
      (ap (λ (x : Line). x.chip.interface.fate) e ∙ q.fate ∙ loaded_fate ∙ rw (later t))

  -- the closed form
  pub ready_ends : end_of_ready s (uncut_line d left) (started_cycles s (uncut_line d left) first start) rest ≡ ready_end s (uncut_line d left) (length first) (length rest)
  ready_ends =
      cases (ltb left total) (λ t. ends_cut (ltb-true left total t))
      (λ t.
      let g = ltb-false left total t in
      cases (ltb (busy_of (word_for s d)) 256)
      (λ u.
      let b = ltb-true (busy_of (word_for s d)) 256 u in
      cases (ltb more (length rest))
      (λ v. ends_broken g b (ltb-true more (length rest) v))
      (λ v. ends_whole_fact g b (ltb-false more (length rest) v)))
      (λ u. ends_silent g (ltb-false (busy_of (word_for s d)) 256 u)))

  -- one that passes
  pub record Passing : Type 0 where
    pub in_time : busy_of (word_for s d) < 256
    pub covered : total_for s d (length first) + length rest ≤ left

  pub passing : is_passed (ready_end s (uncut_line d left) (length first) (length rest)).outcome ≡ true → Passing
  unfolding is_passed
  passing h =
      cases (ltb left (ready_total s d (length first) (length rest))) (λ t. absurd (false≢true (sym (rw t) ∙ h)))
      (λ t. cases (ltb (busy_of (word_for s d)) 256)
      (λ u.
      let b = ltb-true (busy_of (word_for s d)) 256 u in
      record { in_time = b; covered = omega (arith, total_is b, ltb-false left (ready_total s d (length first) (length rest)) t) })
      (λ u. absurd (false≢true (sym (rw (t, u)) ∙ h))))

  pub passing_load : Passing → send_all s (uncut_line d left) (started_cycles s (uncut_line d left) first start) ≡ uncut_line d₄ (left - total_for s d (length first))
  passing_load q = loaded_line (omega (arith, q.covered)) q.in_time

  pub passing_final : Passing → send_all s (uncut_line d left) (when_ready s (uncut_line d left) (started_cycles s (uncut_line d left) first start) rest) ≡ uncut_line last (left - total_for s d (length first) - length rest)
  passing_final q = whole (omega (arith, q.covered)) q.in_time (omega (arith, q.covered))

  unpassed_legal : is_passed (ends_as s line 1 (length first)) ≡ false → final.chip.interface.illegal ≡ 0
  unpassed_legal h =
      ap (λ (x : Line). x.chip.interface.illegal) (unpassed_line h)
      ∙ confirmed_legal s d first start d₂ d₄ p.effect.confirmed left

  -- no cycle is answered illegal
  pub ready_legal : (send_all s (uncut_line d left) (when_ready s (uncut_line d left) (started_cycles s (uncut_line d left) first start) rest)).chip.interface.illegal ≡ 0
  ready_legal =
      cases (ltb left total)
      (λ t. unpassed_legal (unpassed_cut t))
      (λ t. cases (ltb (busy_of (word_for s d)) 256)
      (λ u.
      let g = ltb-false left total t in
      let b = ltb-true (busy_of (word_for s d)) 256 u in
      cases (ltb more (length rest))
      (λ v.
      ap (λ (x : Line). x.chip.interface.illegal) (broken g b (ltb-true more (length rest) v))
      ∙ legal_take s d₄ more rest loaded_legal rest_legal)
      (λ v.
      ap (λ (x : Line). x.chip.interface.illegal) (whole g b (ltb-false more (length rest) v)) ∙ p.last_legal))
      (λ u. unpassed_legal (unpassed_silent t u)))
