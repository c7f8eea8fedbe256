-- The invariant holds after every acknowledged formatting. Assumes nothing but the law named.
use Prim.Native.Nat.{ℕ, ◌<◌}
use mathlib.Core.Bool.{Bool, true, false, cond}
use mathlib.Core.Path.{◌≡◌, refl, sym, ap, subst, ◌∙◌}
use native.Mathlib.Omega.{arith}
use borrow.Table.Steps.{cases}
use lib.Dec.{eqb}
use lib.ListN.{length, length-replicate}
use Rattle.geometry.specs.declared.Geometry.{Geometry}
use Rattle.bools.proofs.BoolLaws.{one_true}
use Rattle.bitmaps.specs.Bitmap.{bit_at}
use Rattle.copies.specs.Carried.{is_carried}
use Rattle.cells.specs.Bytes.{Bytes}
use Rattle.chip_array.specs.Device.{Device, Setting}
use Rattle.request.specs.Call.{Result, Performed, sized_for, result_of, sent_in, started_in}
use Rattle.open_write.specs.Open.{OpenState, closed, kept_bytes, is_opened}
use Rattle.open_write.specs.Requests.{OpenResult, open_refusal, leaving, format_gives, open_format_request}
use Rattle.format.specs.Format.{format_run, format_request}
use Rattle.format_laws.specs.Formatting.{Formatting, Acknowledged, Formatted}
use Rattle.format_laws.proofs.FormattingLaws.{format_ends, format_refused}
use Rattle.copies.specs.Blocks.{block_in, is_marked}
use Rattle.damage.specs.Run.{failed_in}
use Rattle.recovery_stored.specs.Stored.{Stored}
use Rattle.recovery_stored.specs.Knows.{Knows}
use Rattle.recovery_stored.proofs.StoredLaws.{acknowledged_stored}
use Rattle.recovery_stored.proofs.KnowsLaws.{full_knows}
use Rattle.recovery.specs.Book.{blank_account}
use Rattle.recovery.specs.Calls.{Lent, Store, store, setting_of, format_on, begun, chip_of}
use Rattle.recovery_proof.specs.Invariant.{Inv}
use Rattle.recovery_proof.proofs.InvariantLaws.{sizes_fit, up_inv}

module _ (g : Geometry) (a : Lent) (d : Device) (x : OpenState) (mask_bytes : Bytes a.mask) (array_bytes : Bytes d.array) (kept : length x.page ≡ kept_bytes) (z : (format_on g a d x).answer ≡ 0) where
  abbrev s : Setting
  s = setting_of g a

  -- the formatting, on the base state
  abbrev base : Performed Result
  base = format_request s (chip_of a d) a.allowed x.state

  abbrev r : Result
  r = result_of base

  abbrev barred : Bool
  barred = eqb (open_refusal g (sized_for s (chip_of a d)) x (is_opened x)) 15

  went : barred ≡ false
  unfolding result_of open_format_request
  went = cases barred (λ t. absurd (omega (arith, rw t at z))) (λ f. f)

  result_is : format_on g a d x ≡ leaving (format_gives r.answer) x r
  unfolding result_of open_format_request
  result_is = rw went refl

  base_done : r.answer ≡ 0
  base_done = sym (ap (λ (q : OpenResult). q.answer) result_is) ∙ z

  pub fits : sized_for s (chip_of a d) ≡ true
  fits = cases (sized_for s (chip_of a d)) (λ t. t) (λ f. absurd (omega (arith, base_done, format_refused s (chip_of a d) a.allowed x.state f)))

  ends : Formatting s (chip_of a d) a.allowed x.state r
  ends = format_ends s (chip_of a d) a.allowed mask_bytes array_bytes fits x.state

  done : Acknowledged s r
  done = ends.acknowledged base_done

  f : Formatted g r.chip.array r.state
  f = done.formatted

  stored : Stored g r.chip.array
  stored = acknowledged_stored s r done

  knows : Knows g r.chip.array r.state
  knows =
      subst (Knows g r.chip.array) (sym f.state_is)
      (full_knows g stored.is_valid r.chip.array stored.array_long f.mounts)

  trace_is : started_in base ≡ (format_run s (chip_of a d) a.allowed x.state).progress.started
  unfolding started_in format_request
  trace_is = rw fits

  failed_listed : (b : ℕ) → b < g.blocks → failed_in b (started_in base) ≡ true → bit_at r.state.invalid b ≡ true
  failed_listed b h e =
      sym (f.lists_are b h) ∙ ends.lists_are base_done b h
      ∙ ap (λ (k : Bool). cond (is_carried g d.array b) true k) (ap (failed_in b) (sym trace_is) ∙ e)
      ∙ one_true (is_carried g d.array b)

  -- it leaves nothing open
  abbrev left : Store
  left = store (closed r.state x) r.chip (blank_account g) (λ b. is_marked g (block_in g d.array b)) (λ b. failed_in b (started_in base))

  pub begun_is : begun g a d x ≡ left
  unfolding begun result_of sent_in started_in open_format_request
  begun_is =
      rw went (ap (λ (k : ℕ). store (leaving (format_gives k) x r).state r.chip (blank_account g) (λ b. is_marked g (block_in g d.array b)) (λ b. failed_in b (started_in base))) base_done)

  pub start_inv : Inv g (begun g a d x)
  start_inv =
      subst (Inv g) (sym begun_is)
      (up_inv g left (sizes_fit s r.chip done.still_sized) (length-replicate {A = ℕ} (length x.page) 0 ∙ kept) (ends.marks_same base_done)
      (record {
        agrees = record { stored = stored; knows = knows; reads = λ l p h k. f.reads_blank l p; failed_listed = failed_listed };
        ready = done.still_ready;
        quiet = refl;
        shut = refl;
      }))
