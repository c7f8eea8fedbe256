-- A formatting of a chip that this store left spares bad blocks, operation by operation and cycle by cycle. Assumes nothing but the law named.
use Rattle.bus_polling.specs.Outcomes.{is_failed}
use lib.Dec.{eqb}
use Prim.Native.Nat.{ℕ, ◌<◌}
use mathlib.Core.Bool.{Bool, false, true, cond}
use mathlib.Core.List.{List, [], ◌∷◌}
use mathlib.Core.Logic.{inl, inr, ⊎_elim}
use mathlib.Core.Path.{◌≡◌, refl, sym, ◌∙◌}
use borrow.Table.Steps.{cases}
use Rattle.geometry.specs.declared.Geometry.{Geometry}
use Rattle.geometry.specs.Limits.{Valid}
use Rattle.cells.specs.Bytes.{Bytes}
use Rattle.chip_array.specs.Device.{Device, Setting}
use Rattle.bus.specs.Line.{Legal}
use Rattle.operations.specs.Trace.{ArrayOperation}
use Rattle.copies.specs.Blocks.{block_in, is_marked}
use Rattle.copies.specs.Table.{with_logical}
use Rattle.state.specs.declared.State.{State}
use Rattle.request.specs.Call.{sized_for, call_line, sent_in, started_in}
use Rattle.format_laws.proofs.FormattingLaws.{format_ends}
use Rattle.recovery_stored.specs.Remembered.{Remembers}
use Rattle.recovery_stored.proofs.RememberedLaws.{stored_remembers}
use Rattle.recovery.specs.Calls.{Store, setting_of, chip_of}
use Rattle.recovery.specs.Recovery.{Always, Spared}
use Rattle.recovery_proof.specs.Invariant.{Inv}
use Rattle.recovery_proof.proofs.ToldLaws.{of_bytes}
use Rattle.recovery_cycles.specs.Starts.{starts_in, Traced}
use Rattle.recovery_cycles.proofs.CycleLaws.{spares_each}
use Rattle.format.specs.Format.{format_request}
use Rattle.recovery_format.specs.Again.{reformatted}
use Rattle.recovery_format.specs.Spares.{FormatSpares, FormatSparesCycles}
use Rattle.recovery_cycles.proofs.TraceLaws.{format_traced}
use Rattle.recovery_format.proofs.RunLaws.{sized-valid}
use Rattle.recovery_format.proofs.FormatKeeps.{format_keeps}
use Rattle.recovery_format.proofs.ForgetLaws.{remembers_any, reformatted_bytes, all_kept}

-- by marks that are the same on the chip's blocks
spared_marks : (g : Geometry) (marked other failed : ℕ → Bool) → ((b : ℕ) → b < g.blocks → marked b ≡ other b) → (os : List ArrayOperation) → Spared g marked failed os → Spared g other failed os
unfolding Spared
spared_marks g marked other failed same [] a = tt
spared_marks g marked other failed same (o ∷ os) a = (
  ⊎_elim inl (λ x. inr (record { below = x.below; unmarked = sym (same o.block x.below) ∙ x.unmarked; table = x.table; table_is = x.table_is; unlisted = x.unlisted; unfailed = x.unfailed })) a.0,
  spared_marks g marked other (λ b. cond (failed b) true (cond (eqb o.block b) (is_failed o.answer) false)) same os a.1,
)

module _ (s : Setting) (mask_bytes : Bytes s.mask) (d : Device) (bytes : Bytes d.array) (n : ℕ) (state : State) where
  abbrev g : Geometry
  g = s.geometry

  -- refused, it sends nothing
  pub legal_sent : Legal s (call_line d n).chip (sent_in (format_request s d n state))
  unfolding sent_in format_request
  legal_sent = cases (sized_for s d) (λ t. rw t (format_ends s d n mask_bytes bytes t state).replayed.each_legal) (λ f. rw f tt)

  pub sent_traced : Traced g (starts_in s (call_line d n).chip (sent_in (format_request s d n state))) (started_in (format_request s d n state))
  unfolding sent_in started_in format_request starts_in Traced
  sent_traced = cases (sized_for s d) (λ t. rw t (format_traced s d n state)) (λ f. rw f tt)

  spares_sized : (keeps : ℕ → Bool) (t : ℕ) → (Valid g → Remembers g d.array keeps t) → Spared g (λ b. is_marked g (block_in g d.array b)) (λ b. false) (started_in (format_request s d n state))
  unfolding started_in format_request Spared
  spares_sized keeps t m =
      cases (sized_for s d) (λ f. rw f (format_keeps s mask_bytes d bytes f keeps t (m (sized-valid s d n f)) n state).spared) (λ f. rw f tt)

  -- no block is programmed or erased that bears a factory mark, that the current table lists, or that has failed in it
  pub format_spares : (keeps : ℕ → Bool) (t : ℕ) → Remembers g d.array keeps t → Spared g (λ b. is_marked g (block_in g d.array b)) (λ b. false) (started_in (format_request s d n state))
  format_spares keeps t m = spares_sized keeps t (λ v. m)

module _ (g : Geometry) (y : Store) (i : Inv g y) (bytes : Bytes y.chip.array) where
  spares_by : FormatSpares g y
  unfolding is_marked
  spares_by fs ok logical a st mask_bytes =
      let other = with_logical logical g in
      let start = stored_remembers g y.chip.array i.table i.stored i.table_is in
      let x = all_kept g y.chip.array _ fs ok y.chip (record { bytes = bytes; table = i.table; remembers = start; marks = λ b h. refl }) in
      let d = reformatted g fs y.chip in
      spared_marks other (λ b. is_marked other (block_in other d.array b)) y.marked (λ b. false) (λ b h. x.marks b h ∙ i.marks b h) _
      (spares_sized (setting_of other a) mask_bytes (chip_of a d) x.bytes a.allowed st _ x.table
      (λ k. remembers_any g logical d.array _ x.table k x.remembers))

  cycles_by : FormatSparesCycles g y
  cycles_by fs ok logical a st mask_bytes =
      let s = setting_of (with_logical logical g) a in
      let d = chip_of a (reformatted g fs y.chip) in
      let all = reformatted_bytes g fs ok y.chip bytes in
      spares_each s y.marked (λ b. false) (call_line d a.allowed).chip (sent_in (format_request s d a.allowed st)) (started_in (format_request s d a.allowed st))
      (sent_traced s mask_bytes d all a.allowed st) (legal_sent s mask_bytes d all a.allowed st) (spares_by fs ok logical a st mask_bytes)

pub formats_spare : Always FormatSpares
formats_spare = of_bytes FormatSpares spares_by

pub formats_spare_cycles : Always FormatSparesCycles
formats_spare_cycles = of_bytes FormatSparesCycles cycles_by
