-- The erase and the page that are due, in two calls on chips that are alike. Assumes nothing.
use Prim.Native.Nat.{ℕ, ◌+◌, ◌-◌, ◌*◌, ◌≤◌, ◌<◌}
use mathlib.Core.Bool.{true, false}
use mathlib.Core.List.{List}
use mathlib.Core.Path.{◌≡◌, refl, sym, ap, ap₂, subst, ◌∙◌}
use native.Mathlib.Omega.{arith}
use borrow.Table.Steps.{cases}
use borrow.Author.Tests.{eqb-false, ltb-true}
use lib.Dec.{eqb, ltb}
use lib.ListN.{length, get_or, take, replicate, length-append, length-replicate}
use lib.Seq.{length-take-le}
use Rattle.geometry.specs.declared.Geometry.{Geometry}
use Rattle.geometry.specs.Limits.{Valid}
use Rattle.geometry.specs.Sizes.{page_size, chip_size, row_of}
use Rattle.geometry.proofs.SizeLaws.{row_below}
use Rattle.cells.proofs.PartLaws.{length_part}
use Rattle.bitmaps.specs.Bitmap.{count_bits, bitmap_bytes}
use Rattle.chip_array.specs.Device.{Setting, setting}
use Rattle.bus_polling.specs.Outcomes.{is_passed, is_cut_off}
use Rattle.bus_polling.specs.Polling.{answer_of}
use Rattle.bus_polling.specs.declared.Outcome.{Outcome}
use Rattle.bus_polling.specs.declared.Outcome.TheVariants.{Passed, Failed, Silent, Cut, Illegal, Protected}
use Rattle.bus_polling.proofs.OutcomeLaws.{is_passed_lem, passed_answered}
use Rattle.operations.specs.Ends.{read_end}
use Rattle.operations.proofs.UnreadyLaws.{called_lent}
use Rattle.progress.specs.Progress.{Progress}
use Rattle.progress.specs.Steps.{program_on}
use Rattle.progress.proofs.ComesLaws.{erase_order, program_order}
use Rattle.progress.proofs.StepLaws.{erase_on_line, erase_on_outcome, program_on_line, program_on_outcome, program_stopped}
use Rattle.pages.specs.Layout.{bytes_of}
use Rattle.pages.proofs.LayoutLaws.{length-bytes_of}
use Rattle.copies.specs.Blocks.{block_in, page_in, main_in}
use Rattle.copies.specs.Table.{header, table_page}
use Rattle.copies.proofs.FormLaws.{length-formed}
use Rattle.table.proofs.TableLaws.{valid_roomy}
use Rattle.damage.proofs.PlaceLaws.{page-long}
use Rattle.fill.specs.Fill.{Copy, Source, given, kept, copy_page, main_of, main_read, page_filled, is_given, data_source, table_main}
use Rattle.fill.proofs.MainLaws.{given-room}
use Rattle.fill.proofs.PageLaws as encoding
use Rattle.fill_cursor.specs.Cursor.{Fits, page_after}
use Rattle.fill_cursor.specs.declared.Cursor.{Cursor}
use Rattle.fill_driver.specs.Driver.{copy_of, source_of, performed}
use Rattle.bools.proofs.BoolLaws.{clash}
use Rattle.fill_portions.proofs.AlikeLaws.{Alike, Matched, matched_still, matched_on, erase_alike, erase_same, program_alike, program_same, read_on_alike, read_on_same, read_comes}

passed_uncut : (o : Outcome) → is_passed o ≡ true → is_cut_off o ≡ false
unfolding is_passed is_cut_off
passed_uncut Passed t = refl
passed_uncut Failed t = refl
passed_uncut Silent t = refl
passed_uncut Cut t = sym t
passed_uncut Illegal t = refl
passed_uncut Protected t = refl

-- a source that can be read, and gives a whole page
abbrev OnChip : Geometry → Source → Type 0
OnChip g (given main) = Unit {0}
OnChip g (kept old form) = old < g.blocks

record Sound (g : Geometry) (array : List ℕ) (n : ℕ) (source : Source) : Type 0 where
  on_chip : OnChip g source
  main_long : length (main_of g array n source) ≡ g.main

-- a table's page
first-long : (g : Geometry) → Valid g → (invalid : List ℕ) → length invalid ≡ 512 → length (table_page g.main g.blocks g.logical invalid) ≡ g.main
unfolding table_page
first-long g v invalid h =
    let k = bitmap_bytes g.blocks in
    let heads : length (header g.blocks g.logical invalid) ≡ 8 =
    length-append (bytes_of 2 g.blocks) _
    ∙ ap₂ ◌+◌ (length-bytes_of 2 g.blocks)
    (length-append (bytes_of 2 g.logical) _
    ∙ ap₂ ◌+◌ (length-bytes_of 2 g.logical)
    (length-append (bytes_of 2 (count_bits invalid g.blocks)) _ ∙ ap₂ ◌+◌ (length-bytes_of 2 (count_bits invalid g.blocks)) (length-bytes_of 2 8))) in
    let ones : length (replicate {A = ℕ} (g.main - (8 + k)) 255) ≡ g.main - (8 + k) = length-replicate {A = ℕ} (g.main - (8 + k)) 255 in
    let bits : length (take k invalid) ≡ k = length-take-le k invalid (omega (arith, h, v.blocks_most)) in
    length-append (header g.blocks g.logical invalid) _ ∙ ap₂ ◌+◌ heads (length-append (take k invalid) _ ∙ ap₂ ◌+◌ bits ones) ∙ omega (arith, (valid_roomy g v).room)

table_sound : (g : Geometry) → Valid g → (array invalid : List ℕ) (n : ℕ) → length invalid ≡ 512 → Sound g array n (given (table_main g invalid n))
unfolding main_of table_main
table_sound g v array invalid n h =
    record {
      on_chip = tt;
      main_long = cases (eqb n 0) (λ t. rw t (first-long g v invalid h)) (λ t. rw t (length-replicate {A = ℕ} g.main 255));
    }

-- a data copy's page
data_sound : (g : Geometry) → Valid g → (array bytes : List ℕ) (old form first count n : ℕ) → length array ≡ chip_size g → length bytes ≡ count * g.main → n < g.pages → Sound g array n (data_source g old form first count bytes n)
unfolding main_of data_source
data_sound g v array bytes old form first count n h long below =
    cases (is_given first count n)
    (λ t.
    rw t
    (record {
      on_chip = tt;
      main_long = length_part ((n - first) * g.main) g.main bytes (omega (arith, long, (given-room first count n g.main g.pages v.main_most v.pages_most below t).0));
    }))
    (λ t.
    cases (ltb old g.blocks)
    (λ u.
    let o = ltb-true old g.blocks u in
    rw (t, u) (record { on_chip = o; main_long = length-formed form n (main_in g (block_in g array old) n) ∙ length-take-le g.main (page_in g (block_in g array old) n) (omega (arith, page-long g v array h old o n below)) }))
    (λ u. rw (t, u) (record { on_chip = tt; main_long = length-replicate {A = ℕ} g.main 255 })))

source_sound : (g : Geometry) → Valid g → (array invalid bytes : List ℕ) (c : Cursor) (form : ℕ) → length array ≡ chip_size g → length invalid ≡ 512 → Fits g (length bytes) c → Sound g array c.page (source_of g c form invalid bytes c.page)
unfolding source_of
source_sound g v array invalid bytes c form h i f =
    cases (eqb c.phase 0)
    (λ t. rw t (data_sound g v array bytes c.old form c.first c.count c.page h f.bytes_long f.page_below))
    (λ t. rw t (table_sound g v array invalid c.page i))

copy-long : (g : Geometry) → Valid g → (c : Copy) (n : ℕ) (main : List ℕ) → length main ≡ g.main → length (copy_page g c n main) ≡ page_size g
copy-long g v c n main h = encoding.page-long g v c.kind c.logical c.number n main h

-- a page is stopped by its read
page_uncut : (s : Setting) (block : ℕ) (c : Copy) (n : ℕ) (source : Source) (p : Progress) → is_cut_off (page_filled s block c n source p).outcome ≡ false → is_cut_off (main_read s n source p).outcome ≡ false
unfolding page_filled
page_uncut s block c n source p f =
    cases (is_passed (main_read s n source p).outcome)
    (λ u. passed_uncut _ u)
    (λ u. sym (ap (λ (x : Progress). is_cut_off x.outcome) (program_stopped s block n _ (main_read s n source p) u)) ∙ f)

module _ (g : Geometry) (mask fates fates' : List ℕ) (p p' : Progress) (t : is_passed p.outcome ≡ true) (t' : is_passed p'.outcome ≡ true) (a : Alike g mask fates fates' p.line p'.line) where
  abbrev s : Setting
  s = setting g mask fates

  abbrev s' : Setting
  s' = setting g mask fates'

  -- the kept read
  module _ (n : ℕ) (below : n < g.pages) where
    main_alike : (source : Source) → OnChip g source → is_cut_off (main_read s n source p).outcome ≡ false → is_cut_off (main_read s' n source p').outcome ≡ false → Matched g mask fates fates' p p' (main_read s n source p) (main_read s' n source p')
    unfolding main_read
    main_alike (given main) o f f' = matched_still g mask fates fates' p p' (sym (is_passed_lem p.outcome t ∙ sym (is_passed_lem p'.outcome t'))) a
    main_alike (kept old form) o f f' =
        let v = a.called.is_valid in
        read_on_alike g mask fates fates' p p' t t' a (row_of g old n) 0 g.main (row_below g v old n o below) (omega (arith, v.main_least)) (omega arith) f f'

    -- it leaves the history
    main_history : (source : Source) → OnChip g source → (main_read s n source p).line.chip.history ≡ p.line.chip.history
    unfolding main_read read_end
    main_history (given main) o = refl
    main_history (kept old form) o =
        let v = a.called.is_valid in
        (read_comes s p t (row_of g old n) 0 g.main (record { called = a.called; row_below = row_below g v old n o below; column_below = omega (arith, v.main_least); within = omega arith })).history_is

  abbrev Ordered : ℕ → ℕ → Progress → Type 0
  Ordered block n q = is_passed q.outcome ≡ true → get_or q.line.chip.history block 0 ≤ n

  page_alike : (block n : ℕ) (c : Copy) (source : Source) → block < g.blocks → n < g.pages → get_or p.line.chip.history block 0 ≤ n → Sound g p.line.chip.array n source
      → is_cut_off (page_filled s block c n source p).outcome ≡ false → is_cut_off (page_filled s' block c n source p').outcome ≡ false
      → Matched g mask fates fates' p p' (page_filled s block c n source p) (page_filled s' block c n source p') × Ordered block (n + 1) (page_filled s block c n source p)
  unfolding page_filled
  page_alike block n c source on below order sound f f' =
      let q = main_read s n source p in
      let q' = main_read s' n source p' in
      let bytes = copy_page g c n (main_of g p.line.chip.array n source) in
      let bytes' = copy_page g c n (main_of g p'.line.chip.array n source) in
      let same : bytes ≡ bytes' = ap (λ (x : List ℕ). copy_page g c n (main_of g x n source)) (sym a.same_array) in
      let main = main_alike n below source sound.on_chip (page_uncut s block c n source p f) (page_uncut s' block c n source p' f') in
      cases (is_passed q.outcome)
      (λ u.
      let u' = ap is_passed main.same_outcome ∙ u in
      let next = main.goes_on (passed_answered _ u) in
      let order' : get_or q.line.chip.history block 0 ≤ n = subst (λ (h : List ℕ). get_or h block 0 ≤ n) (sym (main_history n below source sound.on_chip)) order in
      let long = copy-long g a.called.is_valid c n _ sound.main_long in
      let uncut' = ap (λ (x : List ℕ). is_cut_off (program_on s' block n x q').outcome) same ∙ f' in
      let e = program_on_line s block q q.line refl u n bytes in (
        matched_on g mask fates fates' main
            (subst (λ (x : List ℕ). Matched g mask fates fates' q q' (program_on s block n bytes q) (program_on s' block n x q')) same
            (program_alike g mask fates fates' q q' u u' next block n bytes on below order' long f uncut')),
        program_order s q.line block n bytes (record { called = next.called; block_below = on; page_below = below; in_order = order'; bytes_long = long }) _ _ e
            (program_on_outcome s block q q.line refl u n bytes ∙ ap answer_of (sym e)),
      ))
      (λ u.
      let u' = ap is_passed main.same_outcome ∙ u in
      let stop = program_stopped s block n bytes q u in (
        subst (λ (x : Progress). Matched g mask fates fates' p p' x (program_on s' block n bytes' q')) (sym stop)
            (subst (Matched g mask fates fates' p p' q) (sym (program_stopped s' block n bytes' q' u')) main),
        λ y. clash y (ap (λ (x : Progress). is_passed x.outcome) stop ∙ u),
      ))

  -- the erase or the page that is due; the page after it is in order
  pub performed_alike : (c : Cursor) (form : ℕ) (invalid bytes : List ℕ) → Fits g (length bytes) c → 0 < c.step → length invalid ≡ 512 → (c.step ≡ 2 → get_or p.line.chip.history c.block 0 ≤ c.page)
      → is_cut_off (performed s c form invalid bytes p).outcome ≡ false → is_cut_off (performed s' c form invalid bytes p').outcome ≡ false
      → Matched g mask fates fates' p p' (performed s c form invalid bytes p) (performed s' c form invalid bytes p') × (is_passed (performed s c form invalid bytes p).outcome ≡ true → get_or (performed s c form invalid bytes p).line.chip.history c.block 0 ≤ page_after c)
  unfolding performed page_after
  performed_alike c form invalid bytes fits due i order f f' =
      let on = fits.block_below due in
      cases (eqb c.step 1)
      (λ x.
      let e = erase_on_line s c.block p p.line refl t in
      rw x (
        erase_alike g mask fates fates' p p' t t' a c.block on (rw x at f) (rw x at f'),
        erase_order s p.line c.block (called_lent a.called) on _ _ e (erase_on_outcome s c.block p p.line refl t ∙ ap answer_of (sym e)),
      ))
      (λ x.
      let two : c.step ≡ 2 = omega (arith, due, fits.step_most, eqb-false c.step 1 x) in
      rw x
      (page_alike c.block c.page (copy_of c) (source_of g c form invalid bytes c.page) on fits.page_below (order two)
      (source_sound g a.called.is_valid p.line.chip.array invalid bytes c form a.called.array_long i fits)
      (rw x at f) (rw x at f')))

  -- with as many cycles left, cut or not: the outcome is the same
  module _ (same : p'.line.left ≡ p.line.left) where
    main_same : (n : ℕ) → n < g.pages → (source : Source) → OnChip g source → (main_read s' n source p').outcome ≡ (main_read s n source p).outcome
    unfolding main_read
    main_same n below (given main) o = is_passed_lem p'.outcome t' ∙ sym (is_passed_lem p.outcome t)
    main_same n below (kept old form) o =
        let v = a.called.is_valid in
        read_on_same g mask fates fates' p p' t t' a (row_of g old n) 0 g.main (row_below g v old n o below) (omega (arith, v.main_least)) (omega arith) same

    page_same : (block n : ℕ) (c : Copy) (source : Source) → block < g.blocks → n < g.pages → get_or p.line.chip.history block 0 ≤ n → Sound g p.line.chip.array n source
        → (page_filled s' block c n source p').outcome ≡ (page_filled s block c n source p).outcome
    unfolding page_filled
    page_same block n c source on below order sound =
        let q = main_read s n source p in
        let q' = main_read s' n source p' in
        let bytes = copy_page g c n (main_of g p.line.chip.array n source) in
        let bytes' = copy_page g c n (main_of g p'.line.chip.array n source) in
        let told = main_same n below source sound.on_chip in
        cases (is_passed q.outcome)
        (λ u.
        let u' = ap is_passed told ∙ u in
        let main = main_alike n below source sound.on_chip (passed_uncut q.outcome u) (passed_uncut q'.outcome u') in
        let order' : get_or q.line.chip.history block 0 ≤ n = subst (λ (h : List ℕ). get_or h block 0 ≤ n) (sym (main_history n below source sound.on_chip)) order in
        let left : q'.line.left ≡ q.line.left = omega (arith, same, main.as_many) in
        ap (λ (x : List ℕ). (program_on s' block n (copy_page g c n (main_of g x n source)) q').outcome) a.same_array
        ∙ program_same g mask fates fates' q q' u u' (main.goes_on (passed_answered q.outcome u)) block n bytes on below order' (copy-long g a.called.is_valid c n _ sound.main_long) left)
        (λ u.
        ap (λ (x : Progress). x.outcome) (program_stopped s' block n bytes' q' (ap is_passed told ∙ u)) ∙ told
        ∙ sym (ap (λ (x : Progress). x.outcome) (program_stopped s block n bytes q u)))

    pub performed_same : (c : Cursor) (form : ℕ) (invalid bytes : List ℕ) → Fits g (length bytes) c → 0 < c.step → length invalid ≡ 512 → (c.step ≡ 2 → get_or p.line.chip.history c.block 0 ≤ c.page)
        → (performed s' c form invalid bytes p').outcome ≡ (performed s c form invalid bytes p).outcome
    unfolding performed
    performed_same c form invalid bytes fits due i order =
        let on = fits.block_below due in
        cases (eqb c.step 1)
        (λ x. rw x (erase_same g mask fates fates' p p' t t' a c.block on same))
        (λ x.
        let two : c.step ≡ 2 = omega (arith, due, fits.step_most, eqb-false c.step 1 x) in
        rw x
        (page_same c.block c.page (copy_of c) (source_of g c form invalid bytes c.page) on fits.page_below (order two)
        (source_sound g a.called.is_valid p.line.chip.array invalid bytes c form a.called.array_long i fits)))
