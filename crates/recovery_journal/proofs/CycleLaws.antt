-- The cycles of the reads of a request on the journal. Assumes nothing but the laws named.
use Prim.Native.Nat.{ℕ, zero, suc, ◌+◌, ◌*◌, ◌%◌, ◌/◌, ◌≤◌, ◌<◌}
use mathlib.Core.Bool.{true}
use mathlib.Core.List.{List}
use mathlib.Core.Path.{◌≡◌}
use native.Mathlib.Nat.{div-lt_iff_lt-mul, suc-mul, mul-le-mul}
use native.Mathlib.Omega.{arith}
use borrow.Table.Steps.{cases}
use borrow.Author.Tests.{eqb-false, ltb-true}
use lib.Dec.{eqb, ltb}
use lib.ListN.{get_or}
use Rattle.geometry.specs.declared.Geometry.{Geometry}
use Rattle.geometry.specs.Limits.{Valid}
use Rattle.geometry.specs.Sizes.{row_of}
use Rattle.geometry.proofs.SizeLaws.{row_below, row_page_below}
use Rattle.chip_array.specs.Device.{Device, Setting}
use Rattle.state.specs.State.{none}
use Rattle.progress.specs.Progress.{Progress}
use Rattle.damage.specs.Run.{Spent, read_most}
use Rattle.damage.proofs.ReadLaws.{read_spends}
use Rattle.request.specs.Call.{result_of, sized_for}
use Rattle.open_write.specs.Open.{mounted_open}
use Rattle.open_journal.specs.Requests.{open_takings_request}
use Rattle.journal.specs.Records.{Pages, room}
use Rattle.journal.specs.Takings.{targets, replaced_by}
use Rattle.journal.proofs.EndLaws.{records_end, room_most, room_within}
use Rattle.journal_read.specs.Reads.{block_of, part_on, pages_on, reads_for, amount_on, amounts_on}
use Rattle.journal_requests.specs.Requests.{journal_first, journal_pages, records_in, pass_run, takings_run, takings_request}
use Rattle.recovery.specs.Calls.{Lent, Store, state_of, setting_of, chip_of}
use Rattle.recovery_proof.specs.Invariant.{Inv}
use Rattle.recovery_journal.specs.Journal.{takings_on, AlwaysJournal}
use Rattle.recovery_journal.specs.Cycles.{takings_most, TakingsBounded}
use Rattle.recovery_journal.proofs.PassLaws.{Went, went_first, pages_go, amounts_go}
use Rattle.recovery_journal.proofs.JournalSteps.{unrefused, called, valid_geometry, below, pass_went, refused_by, adm, reads-within}
use Rattle.recovery_journal.proofs.JournalLaws.{by_inv}

module _ (s : Setting) (d : Device) (n : ℕ) (v : Valid s.geometry) (map : List ℕ)
    (below : (i : ℕ) → i < s.geometry.logical → (get_or map i 0 ≡ none → ⊥) → get_or map i 0 < s.geometry.blocks) where
  abbrev g : Geometry
  g = s.geometry

  part_spends : (k m : ℕ) → k < g.logical * g.pages → m ≤ g.main → (p : Progress) → Went s d n p → Spent p (part_on s map k m p) (read_most m)
  unfolding part_on
  part_spends k m h w p x =
      cases (eqb (block_of g map k) none)
      (λ t. rw t (omega arith))
      (λ t.
      let logical = (div-lt_iff_lt-mul {k = g.pages} {x = k} {y = g.logical} (omega (arith, v.pages_least))).1 h in
      let block = below (k / g.pages) logical (eqb-false (block_of g map k) none t) in
      rw t
      (read_spends s d.array d.history (row_of g (block_of g map k) (k % g.pages)) 0 m (row_below g v (block_of g map k) (k % g.pages) block (row_page_below g v k))
      (omega (arith, v.main_least)) (omega (arith, w)) p x.unchanged))

  pub pages_spend : (m : ℕ) → m ≤ g.logical * g.pages → (p : Progress) → Went s d n p → Spent p (pages_on s map m p) (m * read_most g.main)
  unfolding pages_on
  pages_spend zero h p x = omega arith
  pages_spend (suc m) h p x =
      omega (
        arith,
        part_spends m g.main h (omega arith) (pages_on s map m p) (pages_go s d n v map below m (omega (arith, h)) p x),
        pages_spend m (omega (arith, h)) p x,
        suc-mul m (read_most g.main),
      )

  amount_spends : (pages : Pages) (e m : ℕ) → m < g.logical * g.pages → (p : Progress) → Went s d n p → Spent p (amount_on s map pages e m p) (read_most 9)
  unfolding amount_on
  amount_spends pages e m h p x =
      cases (replaced_by (targets pages) e (suc m)) (λ t. rw t (omega arith)) (λ t. rw t (part_spends m 9 h (omega (arith, v.main_least)) p x))

  pub amounts_spend : (pages : Pages) (e m : ℕ) → m ≤ g.logical * g.pages → (p : Progress) → Went s d n p → Spent p (amounts_on s map pages e m p) (m * read_most 9)
  unfolding amounts_on
  amounts_spend pages e zero h p x = omega arith
  amounts_spend pages e (suc m) h p x =
      omega (
        arith,
        amount_spends pages e m h (amounts_on s map pages e m p) (amounts_go s d n v map below pages e m (omega (arith, h)) p x),
        amounts_spend pages e m (omega (arith, h)) p x,
        suc-mul m (read_most 9),
      )

-- no page is read twice to find the end
pub reads_few : (e most : ℕ) → e ≤ most → reads_for e most ≤ most
reads_few e most h = cases (ltb e most) (λ t. rw t (omega (arith, ltb-true e most t))) (λ t. rw t (omega (arith, h)))

module _ (g : Geometry) (y : Store) (i : Inv g y) (a : Lent) where
  abbrev s : Setting
  s = setting_of g a

  abbrev d : Device
  d = chip_of a y.chip

  module _ (fit : sized_for s d ≡ true) (m : mounted_open g (state_of y) ≡ true) where
    abbrev v : Valid g
    v = valid_geometry g y i a fit m

    abbrev reach : ℕ
    reach = reads_for (records_in s d y.state) (room g)

    within : records_in s d y.state ≤ room g
    within = (records_end (journal_pages s d y.state) (room g)).within

    pub pass_spends : a.allowed ≤ (pass_run s d a.allowed y.state).line.left + 65535 * 4361
    pass_spends =
        let few = reads_few (records_in s d y.state) (room g) within in
        let pass =
        pages_spend s d a.allowed v y.state.map (below g y i a fit m) reach (reads-within (records_in s d y.state) (room g) (g.logical * g.pages) within (room_within g)) (journal_first d a.allowed)
        (went_first s d a.allowed (called g y i a fit m)) in
        let pages : reach * read_most g.main ≤ 65535 * 4361 = mul-le-mul {n₂ = 65535} {m₂ = 4361} (omega (arith, few, room_most g)) (omega (arith, v.main_most)) in
        omega (arith, pass, pages)

    run_spends : a.allowed ≤ (takings_run s d a.allowed y.state).line.left + (65535 * 4361 + 65535 * 274)
    unfolding takings_run
    run_spends =
        let sums =
        amounts_spend s d a.allowed v y.state.map (below g y i a fit m) (journal_pages s d y.state) (records_in s d y.state) (records_in s d y.state) (omega (arith, within, room_within g)) (pass_run s d a.allowed y.state) (pass_went g y i a fit m) in
        let amounts : records_in s d y.state * read_most 9 ≤ 65535 * 274 = mul-le-mul {n₂ = 65535} {m₂ = 274} (omega (arith, within, room_most g)) (omega arith) in
        omega (arith, pass_spends, sums, amounts)

  -- a request for the takings sends no more cycles than that
  takings_few : (takings_on g a y).returned.sent ≤ takings_most
  unfolding result_of open_takings_request takings_request
  takings_few =
      cases (eqb (refused_by g y i a) 0)
      (λ t.
      let fit = (adm g y i a t).sizes_fit in
      let m = (adm g y i a t).is_mounted in
      rw (t, unrefused g y i a fit m) (omega (arith, run_spends fit m)))
      (λ t. rw t (omega arith))

pub takings_fits : AlwaysJournal TakingsBounded
takings_fits = by_inv TakingsBounded (λ g y i a. takings_few g y i a)
