-- What the reads of a request on the journal leave: nothing is changed, none fails, and each cycle is legal. Assumes nothing.
use Prim.Native.Nat.{ℕ, zero, suc, ◌+◌, ◌*◌, ◌%◌, ◌/◌, ◌≤◌, ◌<◌}
use mathlib.Core.Bool.{true, false, false≢true}
use mathlib.Core.List.{List, []}
use mathlib.Core.Path.{◌≡◌, refl, ◌∙◌}
use native.Mathlib.Nat.{div-lt_iff_lt-mul}
use native.Mathlib.Omega.{arith}
use borrow.Table.Steps.{cases}
use borrow.Author.Tests.{eqb-false}
use lib.Dec.{eqb}
use lib.ListN.{get_or}
use Rattle.geometry.specs.declared.Geometry.{Geometry}
use Rattle.geometry.specs.Limits.{Valid}
use Rattle.geometry.specs.Sizes.{page_size, row_count, row_of}
use Rattle.geometry.proofs.SizeLaws.{row_below, row_page_below}
use Rattle.chip_array.specs.Device.{Device, Setting}
use Rattle.bus_polling.specs.Outcomes.{is_failed, is_silent, is_cut_off, is_illegal, is_protected, is_read_end}
use Rattle.bus_polling.specs.declared.Outcome.TheVariants.{Passed}
use Rattle.operations.specs.Ends.{Called}
use Rattle.state.specs.State.{none}
use Rattle.request.specs.Call.{call_line}
use Rattle.progress.specs.Progress.{Progress, progress, read_on}
use Rattle.progress.proofs.CountLaws.{allowance, allowance_kept}
use Rattle.damage.specs.Run.{Unchanged, NoneFailed}
use Rattle.damage.specs.Touched.{Each}
use Rattle.damage.proofs.ReadLaws.{read_unchanged, read_calm}
use Rattle.damage.proofs.ReplayLaws.{Leads, leads_first, leads_kept}
use Rattle.damage.proofs.TouchLaws.{Reads, read_reads}
use Rattle.journal.specs.Records.{Pages}
use Rattle.journal.specs.Takings.{targets, replaced_by}
use Rattle.journal_read.specs.Reads.{block_of, part_on, pages_on, amount_on, amounts_on}

-- a call that has read so far, from its first chip
pub record Went (s : Setting) (d : Device) (n : ℕ) (p : Progress) : Type 0 where
  pub unchanged : Unchanged s d.array d.history p
  pub calm : NoneFailed (progress (call_line d n) Passed [] []) p
  pub reads : Reads p
  pub leads : Leads s (call_line d n).chip p
  pub counted : allowance p ≡ n

pub went_first : (s : Setting) (d : Device) (n : ℕ) → Called s (call_line d n) → Went s d n (progress (call_line d n) Passed [] [])
unfolding is_illegal is_protected is_cut_off is_silent is_failed is_read_end Each
went_first s d n called =
    record {
      unchanged = record {
        sound = record { legal = refl; known = refl; unprotected = refl; used_up = λ c. absurd (false≢true c); silent_by = λ c. absurd (false≢true c); failed_by_fact = λ c. absurd (false≢true c); called = λ x. called };
        ends = refl;
        same_array = refl;
        same_history = refl;
      };
      calm = λ b. refl;
      reads = tt;
      leads = leads_first s (call_line d n);
      counted = omega arith;
    }

went_read : (s : Setting) (d : Device) (n row column k : ℕ) → row < row_count s.geometry → column < page_size s.geometry → column + k ≤ page_size s.geometry → (p : Progress) → Went s d n p → Went s d n (read_on s row column k p)
went_read s d n row column k r c w p x =
    record {
      unchanged = read_unchanged s d.array d.history row column k r c w p x.unchanged;
      calm = λ b. read_calm s d.array d.history row column k r c w p x.unchanged b ∙ x.calm b;
      reads = read_reads s row column k p x.reads;
      leads = (leads_kept s (call_line d n).chip).read row column k p x.leads;
      counted = (allowance_kept s n).read row column k p x.counted;
    }

-- the reads of pages whose logical blocks have copies on the chip
module _ (s : Setting) (d : Device) (n : ℕ) (v : Valid s.geometry) (map : List ℕ)
    (below : (i : ℕ) → i < s.geometry.logical → (get_or map i 0 ≡ none → ⊥) → get_or map i 0 < s.geometry.blocks) where
  abbrev g : Geometry
  g = s.geometry

  part_goes : (k m : ℕ) → k < g.logical * g.pages → m ≤ g.main → (p : Progress) → Went s d n p → Went s d n (part_on s map k m p)
  unfolding part_on
  part_goes k m h w p x =
      cases (eqb (block_of g map k) none)
      (λ t. rw t x)
      (λ t.
      let logical = (div-lt_iff_lt-mul {k = g.pages} {x = k} {y = g.logical} (omega (arith, v.pages_least))).1 h in
      let block = below (k / g.pages) logical (eqb-false (block_of g map k) none t) in
      rw t
      (went_read s d n (row_of g (block_of g map k) (k % g.pages)) 0 m (row_below g v (block_of g map k) (k % g.pages) block (row_page_below g v k))
      (omega (arith, v.main_least)) (omega (arith, w)) p x))

  pub pages_go : (m : ℕ) → m ≤ g.logical * g.pages → (p : Progress) → Went s d n p → Went s d n (pages_on s map m p)
  unfolding pages_on
  pages_go zero h p x = x
  pages_go (suc m) h p x = part_goes m g.main h (omega arith) (pages_on s map m p) (pages_go m (omega (arith, h)) p x)

  amount_goes : (pages : Pages) (e m : ℕ) → m < g.logical * g.pages → (p : Progress) → Went s d n p → Went s d n (amount_on s map pages e m p)
  unfolding amount_on
  amount_goes pages e m h p x =
      cases (replaced_by (targets pages) e (suc m)) (λ t. rw t x) (λ t. rw t (part_goes m 9 h (omega (arith, v.main_least)) p x))

  pub amounts_go : (pages : Pages) (e m : ℕ) → m ≤ g.logical * g.pages → (p : Progress) → Went s d n p → Went s d n (amounts_on s map pages e m p)
  unfolding amounts_on
  amounts_go pages e zero h p x = x
  amounts_go pages e (suc m) h p x = amount_goes pages e m h (amounts_on s map pages e m p) (amounts_go pages e m (omega (arith, h)) p x)
