-- The trace of every request has the operations that its confirm cycles start, one by one. Assumes nothing.
use Prim.Native.Nat.{ℕ, ◌/◌, ◌%◌}
use mathlib.Core.Bool.{Bool, true, false, cond}
use mathlib.Core.List.{List, [], ◌∷◌, ◌++◌, map, append-nil, append_assoc}
use mathlib.Core.Path.{◌≡◌, refl, sym, ap, subst, ◌∙◌}
use native.Mathlib.Omega.{arith}
use borrow.Table.Steps.{cases}
use lib.ListN.{replicate}
use Rattle.geometry.specs.declared.Geometry.{Geometry}
use Rattle.geometry.specs.Sizes.{row_of, column_bytes, row_bytes}
use Rattle.chip_interface.specs.Interface.{after_reset}
use Rattle.chip_array.specs.Device.{Device, Setting, with_interface}
use Rattle.chip.specs.Chip.{Cycle, exec, is_confirm}
use Rattle.chip.specs.Chip.Cycle.{command, address, data_in, data_out}
use Rattle.bus.specs.Line.{Line, admits, send, send_all, sent, run}
use Rattle.bus.proofs.StepLaws.{reset_command, status_ready}
use Rattle.bus_polling.specs.Outcomes.{is_passed}
use Rattle.bus_polling.specs.declared.Outcome.TheVariants.{Passed}
use Rattle.bus_polling.specs.Polling.{outcome_of, status_reads}
use Rattle.bus_sequences.specs.Cycles.{address_cycles, reset_cycles, confirm_cycles, read_address, program_data, erase_address, page_line, read_cycles, program_cycles, erase_cycles, status_cycles}
use Rattle.operations.specs.Trace.{ArrayOperation, read_starts, program_starts, erase_starts}
use Rattle.progress.specs.Progress.{Progress, progress, read_on, reset_on, status_on}
use Rattle.progress.specs.Steps.{erase_on, program_on}
use Rattle.progress.specs.Kept.{Kept}
use Rattle.state.specs.declared.State.{State}
use Rattle.request.specs.Call.{call_line}
use Rattle.read_page.specs.Fetching.{page_progress}
use Rattle.scan_summary.specs.declared.Depth.{Depth}
use Rattle.mount.specs.Mount.{mount_run}
use Rattle.mount_laws.proofs.MountingLaws.{mount_keeps}
use Rattle.format.specs.Format.{format_run}
use Rattle.format_laws.specs.Formatting.{reads_done}
use Rattle.format_laws.proofs.FormattingLaws.{format_keeps}
use Rattle.write_changes.specs.Changes.{Update, change_call, change_first}
use Rattle.fill_cursor.specs.declared.Running.{Running}
use Rattle.fill_driver.specs.Driver.{ran}
use Rattle.fill_laws.proofs.KeepLaws.{ran_keeps}
use Rattle.write_changes.proofs.KeepLaws.{call_keeps}
use Rattle.damage.proofs.ReplayLaws.{Leads, leads_first, leads_kept, leads_status}
use Rattle.recovery_cycles.specs.Starts.{Start, fails_next, starts_in, kind_of, Traced, TracedFrom}
use Rattle.recovery_cycles.proofs.AllLaws.{All, all_append, all_mapped, all_repeated, all-sent}
use Rattle.recovery_cycles.proofs.LatchLaws.{erase_row, program_row, program_bytes}
use Rattle.recovery_cycles.proofs.FailLaws.{polls_pass}
use Rattle.recovery_cycles.proofs.UnfailedLaws.{shown_failed, reads-unfailed}
use Rattle.recovery_cycles.proofs.StartLaws.{Idle, Plain, starts_append, plain_command_lem, plain_address, plain_in, plain_out, idle_status, idle_starts, operation_passes, operation_traced}

traced_append : (g : Geometry) (ts us : List Start) (os ps : List ArrayOperation) → Traced g ts os → Traced g us ps → Traced g (ts ++ us) (os ++ ps)
unfolding Traced
traced_append g [] us [] ps a b = b
traced_append g [] us (o ∷ os) ps a b = absurd a
traced_append g (t ∷ ts) us [] ps a b = absurd a
traced_append g (t ∷ ts) us (o ∷ os) ps a b = (a.0, traced_append g ts us os ps a.1 b)

-- the cycles of an operation around its confirm cycle
pub regroup : (xs zs out : List Cycle) (c k : Cycle) → ((xs ++ (c ∷ k ∷ [])) ++ zs) ++ out ≡ xs ++ (c ∷ (k ∷ (zs ++ out)))
regroup xs zs out c k = append_assoc (xs ++ (c ∷ k ∷ [])) zs out ∙ append_assoc xs (c ∷ k ∷ []) (zs ++ out)

-- what cycles sent from a line add to a trace: operations for their confirm cycles, and no E1h before the first of them
abbrev pub Adds : Setting → Line → List Cycle → List ArrayOperation → Type 0
Adds s l cs os =
    (fails_next s l.chip (sent s l cs) ≡ false) × Traced s.geometry (starts_in s l.chip (sent s l cs)) os

pub erase_plain : (row : ℕ) → All Plain (erase_address row)
unfolding is_confirm
erase_plain row = (plain_command_lem 96 refl, all_mapped Plain address plain_address (row_bytes row))

pub program_plain : (row : ℕ) (bytes : List ℕ) → All Plain (program_data row bytes)
unfolding is_confirm
program_plain row bytes =
    (plain_command_lem 128 refl, all_append Plain (address_cycles 0 row) (map data_in bytes) (all_mapped Plain address plain_address (column_bytes 0 ++ row_bytes row)) (all_mapped Plain data_in plain_in bytes))

pub read_plain : (row column : ℕ) → All Plain (read_address row column)
unfolding is_confirm
read_plain row column = (plain_command_lem 0 refl, all_mapped Plain address plain_address (column_bytes column ++ row_bytes row))

-- 00h and data output, where ready is reported
pub output_plain : (b : Bool) (n : ℕ) → All Plain (cond b (command 0 ∷ replicate n data_out) [])
unfolding is_confirm
output_plain true n = (plain_command_lem 0 refl, all_repeated Plain n data_out plain_out)
output_plain false n = tt

module _ (s : Setting) (l : Line) where
  pub reset_adds : Adds s l reset_cycles []
  unfolding is_confirm sent fails_next Traced
  reset_adds =
      let d = l.chip in
      let back = plain_command_lem 255 refl in
      let asked = plain_command_lem 112 refl in
      let ready : exec s d (command 255) ≡ with_interface (after_reset d.interface) d = reset_command s d in
      let shown : (exec s (exec s d (command 255)) (command 112)).interface.failed ≡ 0 =
      ap (λ (x : Device). (exec s x (command 112)).interface.failed) ready ∙ ap (λ (x : Device). x.interface.failed) (status_ready s (with_interface (after_reset d.interface) d) (omega arith)) in (
        cases (admits l)
            (λ t. cases (admits (send s l (command 255)))
            (λ u. rw (t, u, back.0 s d, back.1 d, asked.0 s (exec s d (command 255)), asked.1 (exec s d (command 255)))
            (polls_pass s 1 (send s (send s l (command 255)) (command 112)) (exec s (exec s d (command 255)) (command 112)) shown))
            (λ u. rw (t, u, back.0 s d, back.1 d)))
            (λ t. rw t),
        subst (λ (ts : List Start). Traced s.geometry ts []) (sym (idle_starts s d (sent s l reset_cycles) (all-sent Idle s l reset_cycles (back.0, (asked.0, (idle_status, tt)))))) tt,
      )

  -- a status read starts nothing
  pub status_starts : (d : Device) → starts_in s d (sent s l status_cycles) ≡ []
  unfolding is_confirm
  status_starts d =
      idle_starts s d (sent s l status_cycles) (all-sent Idle s l status_cycles ((plain_command_lem 112 refl).0, (idle_status, tt)))

  -- nor does it read E1h, where the operation before it did not fail
  pub status_adds : l.chip.interface.failed ≡ 0 → Adds s l status_cycles []
  unfolding is_confirm sent fails_next Traced
  status_adds z =
      let d = l.chip in
      let asked = plain_command_lem 112 refl in (
        cases (admits l)
            (λ t. rw (t, asked.0 s d, asked.1 d) (polls_pass s 1 (send s l (command 112)) (exec s d (command 112)) (shown_failed s d ∙ z)))
            (λ t. rw t),
        subst (λ (ts : List Start). Traced s.geometry ts []) (sym (status_starts d)) tt,
      )

  erase_adds : (row : ℕ) → Adds s l (erase_cycles s l row) (erase_starts s l row)
  unfolding is_confirm kind_of
  erase_adds row =
      let reads = status_reads s (send_all s l (erase_address row ++ confirm_cycles 208)).chip in
      let plain = erase_plain row in
      subst (λ (cs : List Cycle). Adds s l cs (erase_starts s l row))
      (sym (sym (append-nil (erase_cycles s l row)) ∙ regroup (erase_address row) reads [] (command 208) (command 112))) (
        operation_passes s l (erase_address row) [] 208 3 row [] refl refl plain tt,
        operation_traced s l (erase_address row) [] 208 3 row [] refl refl plain tt
            (λ b failed passed taken at. record {
              confirms = refl;
              kind_is = refl;
              before_is = refl;
              program_is = λ e. absurd (omega (arith, e));
              erase_is = λ e below. ap (λ (r : ℕ). r / s.geometry.pages) (sym (ap (λ (d : Device). d.interface.address / 65536) at ∙ erase_row s l.chip row below taken));
              failed_is = failed;
              read_unfailed = passed;
            }),
      )

  program_adds : (row : ℕ) (bytes : List ℕ) → Adds s l (program_cycles s l row bytes) (program_starts s l row bytes)
  unfolding is_confirm kind_of
  program_adds row bytes =
      let reads = status_reads s (send_all s l (program_data row bytes ++ confirm_cycles 16)).chip in
      let plain = program_plain row bytes in
      subst (λ (cs : List Cycle). Adds s l cs (program_starts s l row bytes))
      (sym (sym (append-nil (program_cycles s l row bytes)) ∙ regroup (program_data row bytes) reads [] (command 16) (command 112))) (
        operation_passes s l (program_data row bytes) [] 16 2 row bytes refl refl plain tt,
        operation_traced s l (program_data row bytes) [] 16 2 row bytes refl refl plain tt
            (λ b failed passed taken at. record {
              confirms = refl;
              kind_is = refl;
              before_is = refl;
              program_is = λ e below.
                  let row_is : (send_all s l (program_data row bytes)).chip.interface.address / 65536 ≡ row = ap (λ (d : Device). d.interface.address / 65536) at ∙ program_row s l.chip row below bytes taken in
                  record {
                    kind_is = refl;
                    block_is = ap (λ (r : ℕ). r / s.geometry.pages) (sym row_is);
                    page_is = ap (λ (r : ℕ). r % s.geometry.pages) (sym row_is);
                    bytes_are = sym (ap (λ (d : Device). d.register) at ∙ program_bytes s l.chip row below bytes taken);
                  };
              erase_is = λ e. absurd (omega (arith, e));
              failed_is = failed;
              read_unfailed = passed;
            }),
      )

  read_adds : (row column n : ℕ) → Adds s l (read_cycles s l row column n) (read_starts s l row column)
  unfolding is_confirm kind_of read_cycles
  read_adds row column n =
      let reads = status_reads s (send_all s l (read_address row column ++ confirm_cycles 48)).chip in
      let out = cond (is_passed (outcome_of (page_line s l row column))) (command 0 ∷ replicate n data_out) [] in
      let plain = read_plain row column in
      let plain_end = output_plain (is_passed (outcome_of (page_line s l row column))) n in
      subst (λ (cs : List Cycle). Adds s l cs (read_starts s l row column)) (sym (regroup (read_address row column) reads out (command 48) (command 112))) (
        operation_passes s l (read_address row column) out 48 1 row [] refl refl plain plain_end,
        operation_traced s l (read_address row column) out 48 1 row [] refl refl plain plain_end
            (λ b failed passed taken at. record {
              confirms = refl;
              kind_is = refl;
              before_is = refl;
              program_is = λ e. absurd (omega (arith, e));
              erase_is = λ e. absurd (omega (arith, e));
              failed_is = failed;
              read_unfailed = passed;
            }),
      )

-- a request that has come from chip d so far, and sends such cycles
module _ (s : Setting) (d : Device) where
  sent_traced : (p : Progress) → Leads s d p → TracedFrom s d p → (cs : List Cycle) (os : List ArrayOperation) → Adds s p.line cs os → Traced s.geometry (starts_in s d (p.cycles ++ sent s p.line cs)) (p.started ++ os)
  sent_traced p e h cs os k =
      let passes : fails_next s (run s d p.cycles) (sent s p.line cs) ≡ false = ap (λ (x : Device). fails_next s x (sent s p.line cs)) e ∙ k.0 in
      rw (starts_append s d p.cycles (sent s p.line cs) passes, e) (traced_append s.geometry (starts_in s d p.cycles) (starts_in s p.line.chip (sent s p.line cs)) p.started os h k.1)

  abbrev Both : Progress → Type 0
  Both p = Leads s d p × TracedFrom s d p

  reset_keeps : (p : Progress) → Both p → TracedFrom s d (reset_on s p)
  unfolding reset_on
  reset_keeps p b =
      cases (is_passed p.outcome)
      (λ t. rw t
      (subst (λ (os : List ArrayOperation). Traced s.geometry (starts_in s d (p.cycles ++ sent s p.line reset_cycles)) os) (append-nil p.started)
      (sent_traced p b.0 b.1 reset_cycles [] (reset_adds s p.line))))
      (λ t. rw t b.1)

  read_keeps : (row column n : ℕ) (p : Progress) → Both p → TracedFrom s d (read_on s row column n p)
  unfolding read_on
  read_keeps row column n p b =
      cases (is_passed p.outcome)
      (λ t. rw t (sent_traced p b.0 b.1 (read_cycles s p.line row column n) (read_starts s p.line row column) (read_adds s p.line row column n)))
      (λ t. rw t b.1)

  erase_keeps : (block : ℕ) (p : Progress) → Both p → TracedFrom s d (erase_on s block p)
  unfolding erase_on
  erase_keeps block p b =
      let row = row_of s.geometry block 0 in
      cases (is_passed p.outcome)
      (λ t. rw t (sent_traced p b.0 b.1 (erase_cycles s p.line row) (erase_starts s p.line row) (erase_adds s p.line row)))
      (λ t. rw t b.1)

  program_keeps : (block page : ℕ) (bytes : List ℕ) (p : Progress) → Both p → TracedFrom s d (program_on s block page bytes p)
  unfolding program_on
  program_keeps block page bytes p b =
      let row = row_of s.geometry block page in
      cases (is_passed p.outcome)
      (λ t. rw t (sent_traced p b.0 b.1 (program_cycles s p.line row bytes) (program_starts s p.line row bytes) (program_adds s p.line row bytes)))
      (λ t. rw t b.1)

  -- every operation keeps it
  pub traced_kept : Kept s (λ p. Leads s d p × TracedFrom s d p)
  traced_kept =
      let k = leads_kept s d in
      record {
        reset = λ p b. (k.reset p b.0, reset_keeps p b);
        read = λ row column n p b. (k.read row column n p b.0, read_keeps row column n p b);
        erase = λ block p b. (k.erase block p b.0, erase_keeps block p b);
        program = λ block page bytes p b. (k.program block page bytes p b.0, program_keeps block page bytes p b);
        resume = λ p f b. b;
      }

-- so every request has it, on any chip, however it ends
module _ (s : Setting) (d : Device) (n : ℕ) where
  abbrev from : Device
  from = (call_line d n).chip

  begun : Leads s from (progress (call_line d n) Passed [] []) × TracedFrom s from (progress (call_line d n) Passed [] [])
  unfolding starts_in Traced
  begun = (leads_first s (call_line d n), tt)

  -- the status read that a write or an erase begins with
  pub first_traced : Leads s from (change_first s d n) × TracedFrom s from (change_first s d n)
  unfolding status_on is_passed Traced
  first_traced = (
    leads_status s from (progress (call_line d n) Passed [] []) begun.0,
    subst (λ (ts : List Start). Traced s.geometry ts []) (sym (status_starts s (call_line d n) from)) tt,
  )

  pub change_traced : (st : State) (u : Update) → TracedFrom s from (change_call s d n st u).progress
  change_traced st u = (call_keeps s _ (traced_kept s from) d n st u first_traced).1

  -- a run of the open write
  pub advance_traced : (bytes : List ℕ) (k left : ℕ) (r : Running) → TracedFrom s from (ran s bytes k left r (progress (call_line d n) Passed [] [])).progress
  advance_traced bytes k left r = (ran_keeps s _ (traced_kept s from) bytes k left r (progress (call_line d n) Passed [] []) begun).1

  -- the one after the page reads of a formatting
  status_traced : (p : Progress) → (is_passed p.outcome ≡ true → p.line.chip.interface.failed ≡ 0) → Leads s from p × TracedFrom s from p → Leads s from (status_on s p) × TracedFrom s from (status_on s p)
  unfolding status_on
  status_traced p unfailed b = (
    leads_status s from p b.0,
    cases (is_passed p.outcome)
        (λ t. rw t (subst (λ (os : List ArrayOperation). Traced s.geometry (starts_in s from (p.cycles ++ sent s p.line status_cycles)) os) (append-nil p.started) (sent_traced s from p b.0 b.1 status_cycles [] (status_adds s p.line (unfailed t)))))
        (λ t. rw t b.1),
  )

  pub format_traced : (state : State) → TracedFrom s from (format_run s d n state).progress
  format_traced state =
      (format_keeps s _ (traced_kept s from) d n state begun (status_traced (reads_done s d n) (reads-unfailed s d n))).1

  pub mount_traced : (depth : Depth) → TracedFrom s from (mount_run depth s (call_line d n))
  mount_traced depth = (mount_keeps depth s _ (traced_kept s from) (call_line d n) begun).1

  pub page_traced : (block page : ℕ) → TracedFrom s from (page_progress s d n block page)
  page_traced block page =
      ((traced_kept s from).read (row_of s.geometry block page) 0 s.geometry.main (progress (call_line d n) Passed [] []) begun).1
