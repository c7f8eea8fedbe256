-- Mounts and reads start no operation but reads. Assumes nothing.
use Prim.Native.Nat.{ℕ}
use mathlib.Core.Bool.{false}
use mathlib.Core.List.{List, []}
use borrow.Table.Steps.{cases}
use lib.Dec.{eqb}
use lib.ListN.{get_or}
use Rattle.geometry.specs.declared.Geometry.{Geometry}
use Rattle.geometry.specs.Sizes.{row_of}
use Rattle.chip_array.specs.Device.{Setting}
use Rattle.bus.specs.Line.{Line}
use Rattle.bus_polling.specs.Outcomes.{is_passed}
use Rattle.bus_polling.specs.declared.Outcome.TheVariants.{Passed}
use Rattle.progress.specs.Progress.{progress, reset_on}
use Rattle.scan_summary.specs.declared.Depth.{Depth}
use Rattle.scan.proofs.KeepLaws.{blocks_reads}
use Rattle.state.specs.State.{none}
use Rattle.request.specs.Call.{sized_for, call_line, started_in}
use Rattle.request_refusals.specs.Refusals.{refusal_of}
use Rattle.read.specs.Reading.{copy_request, read_request}
use Rattle.mount.specs.Mount.{mount_run, mount_request}
use Rattle.damage.specs.Touched.{Each}
use Rattle.damage.proofs.TouchLaws.{Reads, read_reads}
use Rattle.open_write.specs.Requests.{open_refusal, open_read_request, open_mount_request}
use Rattle.recovery.specs.Calls.{Lent, to_mount, to_read, Store, state_of, setting_of, trace_of, chip_of}
use Rattle.recovery.specs.Recovery.{Spared}
use Rattle.recovery.proofs.SparedLaws.{spared_reads}

pub mount-reads : (depth : Depth) (s : Setting) (l : Line) → Reads (mount_run depth s l)
unfolding reset_on is_passed Each
mount-reads depth s l = blocks_reads depth s Reads (read_reads s) s.geometry.blocks (reset_on s (progress l Passed [] [])) tt

module _ (g : Geometry) (y : Store) (a : Lent) where
  pub mount_spared : (depth : Depth) → Spared g y.marked y.failed (trace_of g (to_mount depth a) y)
  unfolding started_in open_mount_request mount_request Each
  mount_spared depth =
      spared_reads g y.marked y.failed (trace_of g (to_mount depth a) y)
      (cases (sized_for (setting_of g a) (chip_of a y.chip)) (λ t. rw t (mount-reads depth (setting_of g a) (call_line (chip_of a y.chip) a.allowed))) (λ f. rw f tt))

  pub read_spared : (logical page : ℕ) (buffer : List ℕ) → Spared g y.marked y.failed (trace_of g (to_read a logical page buffer) y)
  unfolding started_in open_read_request read_request copy_request Each
  read_spared logical page buffer =
      let s = setting_of g a in
      spared_reads g y.marked y.failed (trace_of g (to_read a logical page buffer) y)
      (cases (eqb (open_refusal g (sized_for s (chip_of a y.chip)) (state_of y) false) 0)
      (λ o.
      cases (eqb (refusal_of s (chip_of a y.chip) y.state logical page buffer) 0)
      (λ t.
      cases (eqb (get_or y.state.map logical 0) none)
      (λ e. rw (o, t, e) tt)
      (λ e.
      rw (o, t, e)
      (read_reads s (row_of g (get_or y.state.map logical 0) page) 0 g.main (progress (call_line (chip_of a y.chip) a.allowed) Passed [] []) tt)))
      (λ f. rw (o, f) tt))
      (λ o. rw o tt))
