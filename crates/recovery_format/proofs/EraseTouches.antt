-- The array operation that an erase starts, and what a read adds to a trace that spares bad blocks. Assumes nothing.
use Prim.Native.Nat.{ℕ, ◌<◌}
use mathlib.Core.Bool.{Bool, true, false, cond}
use mathlib.Core.List.{List, [], ◌∷◌, ◌++◌}
use mathlib.Core.Path.{◌≡◌, refl, sym, ap, subst, ◌∙◌}
use borrow.Table.Steps.{cases}
use lib.Dec.{eqb, leb}
use Rattle.geometry.specs.Sizes.{row_of}
use Rattle.chip_array.specs.Device.{Setting}
use Rattle.bus_polling.specs.Outcomes.{is_passed, is_failed}
use Rattle.bus_polling.specs.declared.Outcome.{Outcome}
use Rattle.operations.specs.Ends.{Called, confirmed_end, erase_end}
use Rattle.operations.specs.Trace.{ArrayOperation, read_starts, erase_starts}
use Rattle.operations.proofs.EraseLaws.{erase_starts_lem}
use Rattle.progress.specs.Progress.{Progress, line_of, read_on}
use Rattle.progress.specs.Steps.{erase_on}
use Rattle.damage.specs.Run.{failed_in}
use Rattle.damage.specs.Touched.{Each, Steady}
use Rattle.damage.proofs.EachLaws.{each_one}
use Rattle.damage.proofs.EraseLaws.{erase_started_fact, erase_outcome_is}
use Rattle.damage.proofs.TouchLaws.{reads_only}
use Rattle.damage.proofs.TraceLaws.{failed_one, cut-unfailed, steady_one}
use Rattle.recovery.specs.Calls.{failed_after}
use Rattle.recovery.specs.Recovery.{Spared}
use Rattle.recovery.proofs.SparedLaws.{spared_append, spared_reads}

-- an erase of a block that finds this array
pub record Erases (array : List ℕ) (block : ℕ) (o : ArrayOperation) : Type 0 where
  pub kind_is : o.kind ≡ 3
  pub block_is : o.block ≡ block
  pub before_is : o.before ≡ array

-- the operations that an erase from p to q started: none, or that one
pub record EraseTouched (s : Setting) (p q : Progress) (block : ℕ) : Type 0 where
  pub adds : List ArrayOperation
  pub started_is : q.started ≡ p.started ++ adds
  pub each : Each (Erases p.line.chip.array block) adds
  pub steady : Steady adds
  pub failures : (b : ℕ) → failed_in b adds ≡ cond (eqb block b) (is_failed q.outcome) false

module _ (s : Setting) (p : Progress) (block : ℕ) (below : block < s.geometry.blocks) (t : is_passed p.outcome ≡ true) (called : Called s p.line) (high : line_of p ≡ 0) where
  abbrev starts : List ArrayOperation
  starts = erase_starts s p.line (row_of s.geometry block 0)

  abbrev own : ArrayOperation
  own = record { kind = 3; block = block; page = 0; bytes = []; before = p.line.chip.array; answer = (erase_end s p.line block).outcome }

  starts_is : starts ≡ cond (leb p.line.left 4) [] (own ∷ [])
  starts_is = erase_starts_lem s p.line block (record { may = record { called = called; block_below = below }; high = high })

  fails : (b : ℕ) → failed_in b starts ≡ cond (eqb block b) (is_failed (erase_on s block p).outcome) false
  unfolding erase_end confirmed_end
  fails b =
      ap (failed_in b) starts_is ∙ failed_one b own (leb p.line.left 4) (cut-unfailed s p.line 3 4)
      ∙ ap (λ (o : Outcome). cond (eqb block b) (is_failed o) false) (sym (erase_outcome_is s p block below t called high))

  pub erase_touches : EraseTouched s p (erase_on s block p) block
  erase_touches =
      record {
        adds = starts;
        started_is = erase_started_fact s p block below t called high;
        each = subst (Each (Erases p.line.chip.array block)) (sym starts_is)
            (each_one (Erases p.line.chip.array block) (leb p.line.left 4) own (record { kind_is = refl; block_is = refl; before_is = refl }));
        steady = subst Steady (sym starts_is) (steady_one (leb p.line.left 4) own);
        failures = fails;
      }

-- reads spare every block
pub read_spares : (s : Setting) (marked failed : ℕ → Bool) (row column n : ℕ) (p : Progress) → Spared s.geometry marked failed p.started → Spared s.geometry marked failed (read_on s row column n p).started
unfolding read_on
read_spares s marked failed row column n p h =
    let os = read_starts s p.line row column in
    cases (is_passed p.outcome)
    (λ t. rw t (spared_append s.geometry marked failed p.started os h (spared_reads s.geometry marked (failed_after failed p.started) os (reads_only s p.line row column))))
    (λ t. rw t h)
