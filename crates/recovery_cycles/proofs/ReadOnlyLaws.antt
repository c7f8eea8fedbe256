-- No mount, no read and no call that asks for the chip's size, of any chip, sends 80h, 60h, 10h or D0h, and the last starts no operation on the
-- array at all. Nor does a request that changes the chip where the write-protect line is low. Assumes nothing.
use Prim.Native.Nat.{ℕ}
use mathlib.Core.Bool.{true, false, cond}
use mathlib.Core.List.{List, [], ◌∷◌, ◌++◌}
use mathlib.Core.Logic.{⊎_elim}
use mathlib.Core.Path.{◌≡◌, refl, sym, subst, ◌∙◌}
use native.Mathlib.Omega.{arith}
use borrow.Table.Steps.{cases}
use lib.Dec.{eqb}
use lib.ListN.{length, replicate}
use Rattle.geometry.specs.Sizes.{row_of, column_bytes, row_bytes}
use Rattle.chip_array.specs.Device.{Device, Setting, setting}
use Rattle.chip.specs.Chip.{Cycle, is_confirm}
use Rattle.chip.specs.Chip.Cycle.{command, address, data_in, data_out, status, parameter_address, parameter_out}
use Rattle.bus.specs.Line.{Line, send_all, sent}
use Rattle.bus_polling.specs.Outcomes.{is_passed}
use Rattle.bus_polling.specs.Polling.{polls, outcome_of, ended_as, status_reads}
use Rattle.bus_polling.specs.declared.Outcome.TheVariants.{Passed}
use Rattle.bus_sequences.specs.Cycles.{reset_cycles, confirm_cycles, read_address, page_line, read_cycles, status_cycles}
use Rattle.progress.specs.Progress.{Progress, progress, read_on, reset_on, line_of, status_on}
use Rattle.scan_summary.specs.declared.Depth.{Depth}
use Rattle.scan_summary.specs.declared.Depth.TheVariants.{Full}
use Rattle.scan.proofs.KeepLaws.{blocks_reads, blocks_keep}
use Rattle.read_page.specs.Fetching.{page_progress}
use Rattle.request.specs.Call.{call_line, sent_in, sized_for}
use Rattle.request.specs.Start.{start_line}
use Rattle.mount.specs.Mount.{mount_run}
use Rattle.parameter_read.specs.Cycles.{parameter_load, parameter_output, parameter_cycles}
use Rattle.identify.specs.Identify.{unknown, parameters_on, identify_request}
use Rattle.state.specs.declared.State.{State}
use Rattle.progress.proofs.WordLaws.{line_kept}
use Rattle.progress.proofs.StatusLaws.{status_keeps, shown_high}
use Rattle.fill_tables.specs.Tables.{Tabled, after_status}
use Rattle.fill_tables.proofs.StatusLaws.{after-stopped}
use Rattle.write_changes.specs.Changes.{Update, change_run, change_first, change_call}
use Rattle.format.specs.Format.{status_run, reads_run, format_run, format_request}
use Rattle.format_laws.specs.Formatting.{reads_done}
use Rattle.recovery_cycles.specs.Starts.{takes, starts_in, Changes, Modifies}
use Rattle.recovery_cycles.specs.Spared.{OnlyReads}
use Rattle.recovery_cycles.proofs.AllLaws.{All, all_append, all_mapped, all_repeated, all-sent, all_at, all_weaker}
use Rattle.recovery_cycles.proofs.StartLaws.{Idle, idle_starts}

-- neither 80h nor 60h nor 10h nor D0h
abbrev Harmless : Cycle → Type 0
Harmless (command code) = Modifies code → ⊥
Harmless (address byte) = Unit {0}
Harmless (data_in byte) = Unit {0}
Harmless data_out = Unit {0}
Harmless status = Unit {0}
Harmless (parameter_address byte) = Unit {0}
Harmless (parameter_out page) = Unit {0}

only_reads : (cycles : List Cycle) → All Harmless cycles → OnlyReads cycles
only_reads cycles h xs ys code e k = all_at Harmless xs ys (command code) (subst (All Harmless) e h) k

-- 00h, 30h, 70h, ECh and FFh
harmless_00 : Modifies 0 → ⊥
harmless_00 k = ⊎_elim (λ e. omega (arith, e)) (⊎_elim (λ e. omega (arith, e)) (⊎_elim (λ e. omega (arith, e)) (λ e. omega (arith, e)))) k

harmless_30 : Modifies 48 → ⊥
harmless_30 k = ⊎_elim (λ e. omega (arith, e)) (⊎_elim (λ e. omega (arith, e)) (⊎_elim (λ e. omega (arith, e)) (λ e. omega (arith, e)))) k

harmless_70 : Modifies 112 → ⊥
harmless_70 k = ⊎_elim (λ e. omega (arith, e)) (⊎_elim (λ e. omega (arith, e)) (⊎_elim (λ e. omega (arith, e)) (λ e. omega (arith, e)))) k

harmless_ff : Modifies 255 → ⊥
harmless_ff k = ⊎_elim (λ e. omega (arith, e)) (⊎_elim (λ e. omega (arith, e)) (⊎_elim (λ e. omega (arith, e)) (λ e. omega (arith, e)))) k

harmless_ec : Modifies 236 → ⊥
harmless_ec k = ⊎_elim (λ e. omega (arith, e)) (⊎_elim (λ e. omega (arith, e)) (⊎_elim (λ e. omega (arith, e)) (λ e. omega (arith, e)))) k

module _ (s : Setting) where
  read_cycles_fact : (l : Line) (row column n : ℕ) → All Harmless (read_cycles s l row column n)
  unfolding read_cycles
  read_cycles_fact l row column n =
      let asked = (send_all s l (read_address row column ++ confirm_cycles 48)).chip in
      let out = cond (is_passed (outcome_of (page_line s l row column))) (command 0 ∷ replicate n data_out) [] in
      all_append Harmless ((read_address row column ++ confirm_cycles 48) ++ status_reads s asked) out
      (all_append Harmless (read_address row column ++ confirm_cycles 48) (status_reads s asked)
      (all_append Harmless (read_address row column) (confirm_cycles 48) (harmless_00, all_mapped Harmless address (λ b. tt) (column_bytes column ++ row_bytes row)) (harmless_30, (harmless_70, tt)))
      (all_repeated Harmless (polls s 256 asked) status tt))
      (cases (is_passed (outcome_of (page_line s l row column))) (λ t. rw t (harmless_00, all_repeated Harmless n data_out tt)) (λ t. rw t tt))

  read_harmless : (row column n : ℕ) (p : Progress) → All Harmless p.cycles → All Harmless (read_on s row column n p).cycles
  unfolding read_on
  read_harmless row column n p h =
      cases (is_passed p.outcome)
      (λ t. rw t (all_append Harmless p.cycles (sent s p.line (read_cycles s p.line row column n)) h (all-sent Harmless s p.line (read_cycles s p.line row column n) (read_cycles_fact p.line row column n))))
      (λ t. rw t h)

  reset_harmless : (p : Progress) → All Harmless p.cycles → All Harmless (reset_on s p).cycles
  unfolding reset_on
  reset_harmless p h =
      cases (is_passed p.outcome)
      (λ t. rw t (all_append Harmless p.cycles (sent s p.line reset_cycles) h (all-sent Harmless s p.line reset_cycles (harmless_ff, (harmless_70, (tt, tt))))))
      (λ t. rw t h)

  pub mount_only_reads : (depth : Depth) (l : Line) → OnlyReads (mount_run depth s l).cycles
  mount_only_reads depth l =
      only_reads (mount_run depth s l).cycles
      (blocks_reads depth s (λ p. All Harmless p.cycles) read_harmless s.geometry.blocks (reset_on s (progress l Passed [] [])) (reset_harmless (progress l Passed [] []) tt))

  pub page_only_reads : (d : Device) (n block page : ℕ) → OnlyReads (page_progress s d n block page).cycles
  page_only_reads d n block page =
      only_reads (page_progress s d n block page).cycles
      (read_harmless (row_of s.geometry block page) 0 s.geometry.main (progress (call_line d n) Passed [] []) tt)

-- a status read, and what follows it where it did not pass
module _ (s : Setting) where
  status_harmless : (p : Progress) → All Harmless p.cycles → All Harmless (status_on s p).cycles
  unfolding status_on
  status_harmless p h =
      cases (is_passed p.outcome)
      (λ t. rw t (all_append Harmless p.cycles (sent s p.line status_cycles) h (all-sent Harmless s p.line status_cycles (harmless_70, (tt, tt)))))
      (λ t. rw t h)

  -- the status read that a write, an erase or an opening begins with
  pub first_only_reads : (d : Device) (n : ℕ) → OnlyReads (change_first s d n).cycles
  first_only_reads d n = only_reads (change_first s d n).cycles (status_harmless (progress (call_line d n) Passed [] []) tt)

  low_unpassed : (p : Progress) → (line_of p ≡ 0 → ⊥) → is_passed p.outcome ≡ true → is_passed (status_on s p).outcome ≡ false
  low_unpassed p low y =
      cases (is_passed (status_on s p).outcome) (λ t. absurd (low (sym (status_keeps s p) ∙ shown_high s p y t))) (λ f. f)

  module _ (d : Device) (n : ℕ) (low : d.interface.protected ≡ 0 → ⊥) where
    pub change_only_reads : (st : State) (u : Update) → OnlyReads (change_call s d n st u).progress.cycles
    unfolding is_passed
    change_only_reads st u =
        let first = progress (call_line d n) Passed [] [] in
        let p = change_first s d n in
        only_reads (change_call s d n st u).progress.cycles
        (subst (λ (x : Tabled). All Harmless x.progress.cycles) (sym (after-stopped st p (change_run s st u p) (low_unpassed first low refl))) (status_harmless first tt))

    format_harmless : (state : State) → All Harmless (format_run s d n state).progress.cycles
    unfolding reads_run status_run after_status
    format_harmless state =
        let first = progress (call_line d n) Passed [] [] in
        let q = reads_done s d n in
        let here = blocks_reads Full s (λ p. All Harmless p.cycles) (read_harmless s) s.geometry.blocks (reset_on s first) (reset_harmless s first tt) in
        let line_is : line_of q ≡ d.interface.protected = blocks_keep Full s (λ x. line_of x ≡ d.interface.protected) (line_kept s d.interface.protected) s.geometry.blocks (reset_on s first) ((line_kept s d.interface.protected).reset first refl) in
        cases (is_passed q.outcome)
        (λ y. rw (y, low_unpassed q (λ e. low (sym line_is ∙ e)) y) (status_harmless q here))
        (λ f. rw f here)

    -- a formatting
    pub format_only_reads : (state : State) → OnlyReads (sent_in (format_request s d n state))
    unfolding sent_in format_request
    format_only_reads state =
        cases (sized_for s d)
        (λ t. rw t (only_reads (format_run s d n state).progress.cycles (format_harmless state)))
        (λ f. rw f (only_reads [] tt))

pub changes_confirm : (code : ℕ) → Changes code → is_confirm code ≡ true
unfolding is_confirm
changes_confirm code k =
    ⊎_elim (λ e. subst (λ (x : ℕ). is_confirm x ≡ true) (sym e) refl) (λ e. subst (λ (x : ℕ). is_confirm x ≡ true) (sym e) refl) k

-- no confirm cycle, nor one of those
abbrev Unconfirming : Cycle → Type 0
Unconfirming (command code) = (is_confirm code ≡ false) × (Modifies code → ⊥)
Unconfirming (address byte) = Unit {0}
Unconfirming (data_in byte) = Unit {0}
Unconfirming data_out = Unit {0}
Unconfirming status = Unit {0}
Unconfirming (parameter_address byte) = Unit {0}
Unconfirming (parameter_out page) = Unit {0}

unconfirming_idle : (c : Cycle) → Unconfirming c → Idle c
unfolding takes
unconfirming_idle (command code) h = λ s d. rw h.0
unconfirming_idle (address byte) h = λ s d. refl
unconfirming_idle (data_in byte) h = λ s d. refl
unconfirming_idle data_out h = λ s d. refl
unconfirming_idle status h = λ s d. refl
unconfirming_idle (parameter_address byte) h = λ s d. refl
unconfirming_idle (parameter_out page) h = λ s d. refl

unconfirming_harmless : (c : Cycle) → Unconfirming c → Harmless c
unconfirming_harmless (command code) h = h.1
unconfirming_harmless (address byte) h = tt
unconfirming_harmless (data_in byte) h = tt
unconfirming_harmless data_out h = tt
unconfirming_harmless status h = tt
unconfirming_harmless (parameter_address byte) h = tt
unconfirming_harmless (parameter_out page) h = tt

parameter_cycles_lem : (s : Setting) (l : Line) (page : List ℕ) (n : ℕ) → All Unconfirming (parameter_cycles s l page n)
unfolding parameter_cycles is_confirm
parameter_cycles_lem s l page n =
    let first = command 236 ∷ parameter_address 0 ∷ command 112 ∷ [] in
    let asked = (send_all s l first).chip in
    all_append Unconfirming (first ++ status_reads s asked) (cond (is_passed (outcome_of (send_all s l (parameter_load s l)))) (parameter_output page n) [])
    (all_append Unconfirming first (status_reads s asked) ((refl, harmless_ec), (tt, ((refl, harmless_70), tt))) (all_repeated Unconfirming (polls s 256 asked) status tt))
    (cases (is_passed (outcome_of (send_all s l (parameter_load s l)))) (λ t. rw t ((refl, harmless_00), all_repeated Unconfirming n (parameter_out page) tt)) (λ t. rw t tt))

module _ (mask fates : List ℕ) (d : Device) (n : ℕ) (state : State) (page : List ℕ) (logical : ℕ) where
  abbrev cycles : List Cycle
  cycles = sent_in (identify_request mask fates d n state page logical)

  identify_unconfirming : All Unconfirming cycles
  unfolding sent_in identify_request parameters_on reset_on is_passed is_confirm
  identify_unconfirming =
      let s = setting unknown mask fates in
      let reset = all-sent Unconfirming s (call_line d n) reset_cycles ((refl, harmless_ff), ((refl, harmless_70), (tt, tt))) in
      let cs = parameter_cycles s (start_line s d n) page 768 in
      cases (eqb (length page) 768)
      (λ t. cases (is_passed (ended_as (start_line s d n)))
      (λ u. rw (t, u) (all_append Unconfirming (sent s (call_line d n) reset_cycles) (sent s (start_line s d n) cs) reset (all-sent Unconfirming s (start_line s d n) cs (parameter_cycles_lem s (start_line s d n) page 768))))
      (λ u. rw (t, u) reset))
      (λ f. rw f tt)

  pub identify_only_reads : OnlyReads cycles
  identify_only_reads = only_reads cycles (all_weaker Unconfirming Harmless unconfirming_harmless cycles identify_unconfirming)

  -- with any setting
  pub identify_starts_none : (s : Setting) (e : Device) → starts_in s e cycles ≡ []
  identify_starts_none s e = idle_starts s e cycles (all_weaker Unconfirming Idle unconfirming_idle cycles identify_unconfirming)
