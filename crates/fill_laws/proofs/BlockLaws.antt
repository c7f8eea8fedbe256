-- The actions of one fill: from its erase a request comes to what is due after the fill as a whole. Assumes nothing.
use Prim.Native.Nat.{ℕ, zero, suc, ◌+◌, ◌-◌, ◌<◌, ◌≤◌}
use mathlib.Core.Bool.{true, false, cond, false≢true}
use mathlib.Core.List.{List}
use mathlib.Core.Path.{◌≡◌, refl, sym, ap, subst, ◌∙◌}
use native.Mathlib.Numerals.{add-one}
use native.Mathlib.Omega.{arith}
use borrow.Table.Steps.{cases}
use borrow.Author.Tests.{lt-ltb, le-ltb}
use lib.Dec.{eqb}
use Rattle.geometry.specs.Limits.{Valid}
use Rattle.chip_array.specs.Device.{Setting}
use Rattle.bus_polling.specs.Outcomes.{is_passed, is_failed}
use Rattle.bus_polling.specs.declared.Outcome.{Outcome}
use Rattle.bus_polling.specs.declared.Outcome.TheVariants.{Passed, Failed, Silent, Cut, Illegal, Protected}
use Rattle.bus_polling.proofs.OutcomeLaws.{is_passed_lem}
use Rattle.state.specs.declared.State.{State}
use Rattle.progress.specs.Progress.{Progress, progress}
use Rattle.progress.specs.Steps.{erase_on}
use Rattle.fill.specs.Fill.{Source, pages_filled, filled}
use Rattle.fill.proofs.FillLaws.{page-stopped, fill_stopped}
use Rattle.fill_cursor.specs.Cursor.{running, on_page, page_after, filled_whole, unfilled, after_action, withdrawn, settled, after_due, programs}
use Rattle.fill_cursor.specs.declared.Cursor.{Cursor}
use Rattle.fill_cursor.specs.declared.Running.{Running}
use Rattle.fill_driver.specs.Driver.{form_now, copy_of, source_of, performed, gone, gone_on}
use Rattle.fill_laws.proofs.ReachLaws.{Reaches, reach_on, reach_less, reach_performed}

-- what is due after a fill that ended so
unfoldable pub after_fill : Cursor → State → Outcome → Running
after_fill c st o = running (cond (is_passed o) (filled_whole c) (unfilled c o)) (settled c st o)

whole-step : (c : Cursor) → (filled_whole c).step ≡ 0
unfolding filled_whole
whole-step c =
    cases (eqb c.phase 0) (λ t. cases (eqb c.failed 0) (λ u. rw (t, u)) (λ u. rw (t, u))) (λ t. rw t)

whole-state : (c : Cursor) (st s : State) → running (filled_whole c) (cond (eqb (filled_whole c).step 2) st s) ≡ running (filled_whole c) s
whole-state c st s =
    let f : eqb (filled_whole c).step 2 ≡ false = ap (λ (n : ℕ). eqb n 2) (whole-step c) in
    rw f

-- a new fill does not look at the page where the last one ended
whole_same : (m : ℕ) (c : Cursor) → filled_whole (on_page m c) ≡ filled_whole c
unfolding filled_whole
whole_same m c = refl

-- an action that ended a fill decides: an erase or a page that did not pass, or the last page
module _ (pages : ℕ) (c : Cursor) (st : State) where
  pub erase_decides : (o : Outcome) → is_passed o ≡ false → after_due pages (running c st) o ≡ after_fill c st o
  unfolding after_fill after_action unfilled is_passed is_failed
  erase_decides Passed f = absurd (false≢true (sym f))
  erase_decides Failed f = refl
  erase_decides Silent f = refl
  erase_decides Cut f = refl
  erase_decides Illegal f = refl
  erase_decides Protected f = refl

  pub page_decides : (m : ℕ) (o : Outcome) → (is_passed o ≡ true → pages ≤ m + 1) → after_due pages (running (on_page m c) st) o ≡ after_fill c st o
  unfolding after_fill after_action unfilled settled withdrawn is_passed is_failed page_after
  page_decides m Passed h =
      rw (le-ltb (m + 1) pages (h refl))
      (whole-state (on_page m c) st (settled c st Passed) ∙ ap (λ (x : Cursor). running x (settled c st Passed)) (whole_same m c))
  page_decides m Failed h = refl
  page_decides m Silent h = refl
  page_decides m Cut h = refl
  page_decides m Illegal h = refl
  page_decides m Protected h = refl

  -- the erase passed, and a page that is not the last
  pub erase_goes : 0 < pages → c.step ≡ 1 → after_due pages (running c st) Passed ≡ running (on_page 0 c) st
  unfolding after_action is_passed page_after
  erase_goes h e = rw (e, lt-ltb 0 pages h)

  pub page_goes : (m : ℕ) → suc m < pages → after_due pages (running (on_page m c) st) Passed ≡ running (on_page (suc m) c) st
  unfolding after_action is_passed page_after
  page_goes m h =
      let e : m + 1 ≡ suc m = add-one m in
      rw (lt-ltb (m + 1) pages (omega (arith, h))) (ap (λ (x : ℕ). running (on_page x c) st) e)

gone_passed : (q : Progress) → is_passed q.outcome ≡ true → gone_on q ≡ q
unfolding gone is_failed
gone_passed q t =
    let e = is_passed_lem q.outcome t in
    λ i. progress q.line ((ap gone e ∙ sym e) i) q.cycles q.started

-- a fill whose erase is due
module _ (s : Setting) (v : Valid s.geometry) (bytes : List ℕ) (c : Cursor) (st : State) (due : c.phase < 2) (erasing : c.step ≡ 1) (p : Progress) where
  abbrev source : ℕ → Source
  source = source_of s.geometry c (form_now (running c st)) st.invalid bytes

  abbrev erased : Progress
  erased = erase_on s c.block p

  abbrev pages_of : ℕ → Progress
  pages_of n = pages_filled s c.block (copy_of c) source n erased

  erase_programs : programs c ≡ 0
  unfolding programs
  erase_programs = rw erasing

  erase_reach : Reaches s bytes 1 0 (running c st) p (after_due s.geometry.pages (running c st) erased.outcome) (gone_on erased)
  unfolding performed
  erase_reach =
      reach_less s bytes (omega arith) (omega (arith, erase_programs))
      (reach_performed s bytes (running c st) p due (λ z. omega (arith, z, erasing)) erased (rw erasing))

  page_reach : (m : ℕ) → Reaches s bytes 1 1 (running (on_page m c) st) (pages_of m) (after_due s.geometry.pages (running (on_page m c) st) (pages_of (suc m)).outcome) (gone_on (pages_of (suc m)))
  unfolding pages_filled performed copy_of source_of programs
  page_reach m = reach_performed s bytes (running (on_page m c) st) (pages_of m) due (λ z. omega (arith, z)) (pages_of (suc m)) refl

  -- a page that passed was due
  passed_before : (m : ℕ) → is_passed (pages_of (suc m)).outcome ≡ true → is_passed (pages_of m).outcome ≡ true
  unfolding pages_filled
  passed_before m t =
      cases (is_passed (pages_of m).outcome)
      (λ u. u)
      (λ u. absurd (false≢true (sym u ∙ sym (ap (λ (x : Progress). is_passed x.outcome) (page-stopped s c.block (copy_of c) m (source m) (pages_of m) u)) ∙ t)))

  module _ (ok : is_passed erased.outcome ≡ true) where
    first_reach : Reaches s bytes 1 0 (running c st) p (running (on_page 0 c) st) erased
    first_reach =
        subst (λ (r : Running). Reaches s bytes 1 0 (running c st) p r erased) (erase_goes s.geometry.pages c st (omega (arith, v.pages_least)) erasing)
        (subst (λ (x : Progress). Reaches s bytes 1 0 (running c st) p (after_due s.geometry.pages (running c st) Passed) x) (gone_passed erased ok)
        (subst (λ (o : Outcome). Reaches s bytes 1 0 (running c st) p (after_due s.geometry.pages (running c st) o) (gone_on erased)) (is_passed_lem erased.outcome ok) erase_reach))

    -- the first n pages passed
    pages_reach : (n : ℕ) → n < s.geometry.pages → is_passed (pages_of n).outcome ≡ true → Reaches s bytes (1 + n) n (running c st) p (running (on_page n c) st) (pages_of n)
    unfolding pages_filled
    pages_reach zero h t = first_reach
    pages_reach (suc m) h t =
        let q = pages_of (suc m) in
        let from = running (on_page m c) st in
        let one : Reaches s bytes 1 1 from (pages_of m) (running (on_page (suc m) c) st) q =
        subst (λ (r : Running). Reaches s bytes 1 1 from (pages_of m) r q) (page_goes s.geometry.pages c st m h)
        (subst (λ (x : Progress). Reaches s bytes 1 1 from (pages_of m) (after_due s.geometry.pages from Passed) x) (gone_passed q t)
        (subst (λ (o : Outcome). Reaches s bytes 1 1 from (pages_of m) (after_due s.geometry.pages from o) (gone_on q)) (is_passed_lem q.outcome t) (page_reach m))) in
        reach_less s bytes (omega arith) (omega arith) (reach_on s bytes (pages_reach m (omega (arith, h)) (passed_before m t)) one)

    -- where the first n pages came to: page at was the last one sent
    record Last (n : ℕ) : Type 0 where
      pub at : ℕ
      pub below : at < n
      pub before : is_passed (pages_of at).outcome ≡ true
      pub same : pages_of (suc at) ≡ pages_of n
      pub whole : is_passed (pages_of n).outcome ≡ true → n ≤ at + 1

    last_of : (n : ℕ) → Last (suc n)
    unfolding pages_filled
    last_of zero = record { at = 0; below = omega arith; before = ok; same = refl; whole = λ t. omega arith }
    last_of (suc n) =
        cases (is_passed (pages_of (suc n)).outcome)
        (λ t. record { at = suc n; below = omega arith; before = t; same = refl; whole = λ u. omega arith })
        (λ f.
        let x = last_of n in
        let stop = page-stopped s c.block (copy_of c) (suc n) (source (suc n)) (pages_of (suc n)) f in
        record { at = x.at; below = omega (arith, x.below); before = x.before; same = x.same ∙ sym stop; whole = λ u. absurd (false≢true (sym f ∙ sym (ap (λ (y : Progress). is_passed y.outcome) stop) ∙ u)) })

    -- the erase passed, and the pages were filled
    whole_reach : Reaches s bytes (1 + s.geometry.pages) s.geometry.pages (running c st) p (after_fill c st (pages_of s.geometry.pages).outcome) (gone_on (pages_of s.geometry.pages))
    whole_reach =
        let pages = s.geometry.pages in
        let k : suc (pages - 1) ≡ pages = omega (arith, v.pages_least) in
        let x = last_of (pages - 1) in
        let is : pages_of (suc x.at) ≡ pages_of pages = x.same ∙ ap pages_of k in
        let from = running (on_page x.at c) st in
        let one = subst (λ (y : Progress). Reaches s bytes 1 1 from (pages_of x.at) (after_due pages from y.outcome) (gone_on y)) is (page_reach x.at) in
        let decides = page_decides pages c st x.at (pages_of pages).outcome (λ t. omega (arith, x.whole (ap (λ (y : ℕ). is_passed (pages_of y).outcome) k ∙ t))) in
        let last = subst (λ (r : Running). Reaches s bytes 1 1 from (pages_of x.at) r (gone_on (pages_of pages))) decides one in
        reach_less s bytes (omega (arith, x.below, v.pages_least)) (omega (arith, x.below, v.pages_least))
        (reach_on s bytes (pages_reach x.at (omega (arith, x.below, v.pages_least)) x.before) last)

  -- the erase did not pass
  stopped_reach : is_passed erased.outcome ≡ false → Reaches s bytes (1 + s.geometry.pages) s.geometry.pages (running c st) p (after_fill c st (pages_of s.geometry.pages).outcome) (gone_on (pages_of s.geometry.pages))
  unfolding pages_filled
  stopped_reach f =
      let pages = s.geometry.pages in
      let k : pages + 0 ≡ pages = omega arith in
      let same : erased ≡ pages_of pages = sym (fill_stopped s c.block (copy_of c) source 0 erased f pages) ∙ ap pages_of k in
      subst (λ (y : Progress). Reaches s bytes (1 + pages) pages (running c st) p (after_fill c st y.outcome) (gone_on y)) same
      (subst (λ (r : Running). Reaches s bytes (1 + pages) pages (running c st) p r (gone_on erased)) (erase_decides pages c st erased.outcome f)
      (reach_less s bytes (omega arith) (omega arith) erase_reach))

  -- the whole fill
  pub fill_reach : (q : Progress) → filled s c.block (copy_of c) source p ≡ q → Reaches s bytes 65 64 (running c st) p (after_fill c st q.outcome) (gone_on q)
  fill_reach q e =
      subst (λ (y : Progress). Reaches s bytes 65 64 (running c st) p (after_fill c st y.outcome) (gone_on y)) e
      (reach_less s bytes (omega (arith, v.pages_most)) (omega (arith, v.pages_most)) (cases (is_passed erased.outcome) whole_reach stopped_reach))
