-- What one fill leaves of the array and of the trace, by whether its block comes to hold the new copy. Assumes nothing.
use Prim.Native.Nat.{ℕ, ◌<◌}
use mathlib.Core.Bool.{Bool, true, false}
use mathlib.Core.List.{List}
use mathlib.Core.Logic.{◌⊎◌, inl, inr, ⊎_elim}
use mathlib.Core.Path.{◌≡◌, refl, sym, ap, ap₂, ◌∙◌}
use native.Mathlib.Omega.{arith}
use borrow.Table.Steps.{cases}
use lib.ListN.{length, replicate}
use Rattle.geometry.specs.declared.Geometry.{Geometry}
use Rattle.geometry.specs.Limits.{Valid}
use Rattle.geometry.specs.Sizes.{page_size, chip_size}
use Rattle.bools.proofs.BoolLaws.{clash}
use Rattle.cells.specs.Bytes.{Bytes}
use Rattle.cells.specs.Cells.{raised}
use Rattle.chip_array.specs.Device.{Setting}
use Rattle.bus_polling.specs.Outcomes.{is_passed}
use Rattle.operations.specs.Ends.{Called}
use Rattle.operations.specs.Trace.{ArrayOperation}
use Rattle.pages.specs.Layout.{whole}
use Rattle.pages.specs.Over.{Over}
use Rattle.pages.proofs.LayoutLaws.{erased_not_whole}
use Rattle.copies.specs.Blocks.{block_in, page_in, is_complete}
use Rattle.copies.specs.Pick.{at}
use Rattle.copies.specs.Table.{lists}
use Rattle.copies.specs.Current.{current_table}
use Rattle.copies.proofs.CompleteLaws.{complete_pages}
use Rattle.progress.specs.Progress.{Progress, line_of}
use Rattle.fill.specs.Fill.{Copy, Source, copy_page, filled}
use Rattle.damage.specs.Run.{Labelled, Meant, Filled, fill_most}
use Rattle.damage.specs.Touched.{Each, Some, Programs, Unfinished, Touch, TouchedBy, Before, Since, Touched}
use Rattle.damage.proofs.CopyLaws.{copy_complete}
use Rattle.damage.proofs.FillLaws.{fill_leaves}
use Rattle.damage.proofs.TouchLaws.{fill_touches}
use Rattle.damage.proofs.EachLaws.{each_map}
use Rattle.recovery_stored.specs.Stored.{Stored}
use Rattle.recovery_stored.specs.After.{After, Below, Free, Calm}
use Rattle.recovery_stored.proofs.StoredLaws.{stored_based}
use Rattle.recovery_stored.proofs.AfterLaws.{after_old, after_new}
use Rattle.recovery_stored.proofs.CalmLaws.{old_calm, new_calm, old_below, new_below}
use Rattle.recovery.specs.Recovery.{SparesBad, SparedBy}

-- nothing new is complete: no program was started, or the block is not complete
pub record Quiet (g : Geometry) (before after : List ℕ) (t b : ℕ) (adds : List ArrayOperation) : Type 0 where
  pub calm : Calm g before after t
  pub below : (n : ℕ) → Below g before n → Below g after n
  pub unsent : Each (λ o. o.kind ≡ 2 → ⊥) adds ⊎ (is_complete g (block_in g after b) ≡ false)

-- the block is complete with the new pages, each of which was sent
pub record Made (g : Geometry) (before after : List ℕ) (b : ℕ) (pages : ℕ → List ℕ) (adds : List ArrayOperation) : Type 0 where
  pub after_new : After g before after b pages
  pub complete : is_complete g (block_in g after b) ≡ true
  pub sent : (i : ℕ) → i < g.pages → Some (Programs b i (pages i)) adds

-- a fill of block b from p to q, while table t is current: what it leaves, and what its operations found
pub record Tried (s : Setting) (p q : Progress) (t b : ℕ) (pages : ℕ → List ℕ) : Type 0 where
  pub leaves : Filled s p q b pages s.geometry.pages (fill_most s.geometry)
  pub touched : Touched s p q b pages
  pub spares : (marked failed : ℕ → Bool) → marked b ≡ false → failed b ≡ false → Each (SparedBy s.geometry marked failed) touched.adds
  pub elsewhere : (k : ℕ) → (k ≡ b → ⊥) → Each (λ o. o.kind ≡ 2 → o.block ≡ k → ⊥) touched.adds
  pub comes : length q.line.chip.array ≡ chip_size s.geometry
      → ((is_passed q.outcome ≡ false) × Quiet s.geometry p.line.chip.array q.line.chip.array t b touched.adds) ⊎ Made s.geometry p.line.chip.array q.line.chip.array b pages touched.adds

module _ (s : Setting) (mask_bytes : Bytes s.mask) (p : Progress)
    (t b : ℕ) (stored : Stored s.geometry p.line.chip.array) (table_is : current_table s.geometry p.line.chip.array ≡ at t) (free : Free s.geometry p.line.chip.array t b)
    (c : Copy) (labelled : Labelled c) (main : ℕ → List ℕ) (main_long : (i : ℕ) → i < s.geometry.pages → length (main i) ≡ s.geometry.main) (main_bytes : (i : ℕ) → i < s.geometry.pages → Bytes (main i))
    (q : Progress) (try-leaves : Filled s p q b (λ i. copy_page s.geometry c i (main i)) s.geometry.pages (fill_most s.geometry)) (try-touches : Touched s p q b (λ i. copy_page s.geometry c i (main i))) where
  abbrev g : Geometry
  g = s.geometry

  v : Valid g
  v = stored.is_valid

  abbrev before : List ℕ
  before = p.line.chip.array

  abbrev pages : ℕ → List ℕ
  pages i = copy_page g c i (main i)

  -- an array on which every other block is as it was
  module _ (x : List ℕ) (long : length x ≡ chip_size g) (others : (k : ℕ) → k < g.blocks → (k ≡ b → ⊥) → block_in g x k ≡ block_in g before k) where
    new_after : ((i : ℕ) → i < g.pages → Over (pages i) (page_in g (block_in g x b) i)) → After g before x b pages
    new_after over = after_new g v c labelled main main_long main_bytes before x b long others over

    old_after : (block_in g x b ≡ block_in g before b) ⊎ (block_in g x b ≡ raised (block_in g before b) s.mask) → After g before x b (λ i. page_in g (block_in g before b) i)
    old_after = after_old g before x t b s.mask (stored_based g before t b stored table_is free) mask_bytes long others

    -- a page that is FFh keeps the block from being complete
    incomplete : (i : ℕ) → i < g.pages → page_in g (block_in g x b) i ≡ replicate (page_size g) 255 → is_complete g (block_in g x b) ≡ false
    incomplete i h e =
        cases (is_complete g (block_in g x b))
        (λ y. clash ((complete_pages g (block_in g x b) y).is_whole i h) (ap (whole g.main) e ∙ erased_not_whole g.main (page_size g)))
        (λ f. f)

    -- what the array of an operation of this fill shows
    spares_at : Calm g before x t → (marked failed : ℕ → Bool) → marked b ≡ false → failed b ≡ false → (o : ArrayOperation) → o.block ≡ b → o.before ≡ x → SparesBad g marked failed o
    spares_at k marked failed m f o eb ex =
        record {
          below = omega (arith, eb, free.below);
          unmarked = ap marked eb ∙ m;
          table = t;
          table_is = ap (current_table g) ex ∙ k.table_is;
          unlisted = ap₂ (λ (a : List ℕ) (j : ℕ). lists g (block_in g a t) j) ex eb ∙ ap (λ (row : List ℕ). lists g row b) k.table_same ∙ free.unlisted;
          unfailed = ap failed eb ∙ f;
        }

  -- every program and erase of the fill is of a block that may be filled
  spared_by : (marked failed : ℕ → Bool) → marked b ≡ false → failed b ≡ false → (o : ArrayOperation) → TouchedBy g before b pages o → SparedBy g marked failed o
  spared_by marked failed m f o touched = ⊎_elim inl (λ k. inr (spares o k)) touched
    where
      spares : (o : ArrayOperation) → Touch g before b pages o → SparesBad g marked failed o
      spares o k =
          let long : length o.before ≡ chip_size g = k.long ∙ stored.array_long in
          ⊎_elim
          (λ e. spares_at o.before long k.others (old_calm g before o.before t b stored table_is free (old_after o.before long k.others (inl e))) marked failed m f o k.block_is refl)
          (λ e.
          spares_at o.before long k.others
          (new_calm g before o.before t b pages stored table_is free (new_after o.before long k.others e.over) (incomplete o.before long k.others e.page e.page_below e.blank))
          marked failed m f o k.block_is refl)
          k.here

  try_spares : (marked failed : ℕ → Bool) → marked b ≡ false → failed b ≡ false → Each (SparedBy g marked failed) try-touches.adds
  try_spares marked failed m f = each_map (TouchedBy g before b pages) (SparedBy g marked failed) (spared_by marked failed m f) try-touches.adds try-touches.each

  -- no other block is programmed
  try_elsewhere : (k : ℕ) → (k ≡ b → ⊥) → Each (λ o. o.kind ≡ 2 → o.block ≡ k → ⊥) try-touches.adds
  try_elsewhere k x =
      each_map (TouchedBy g before b pages) (λ o. o.kind ≡ 2 → o.block ≡ k → ⊥)
      (λ o y two e. ⊎_elim (λ one. omega (arith, one, two)) (λ z. x (sym e ∙ z.block_is)) y) try-touches.adds try-touches.each

  -- how the fill came out
  module _ (long : length q.line.chip.array ≡ chip_size g) where
    abbrev after : List ℕ
    after = q.line.chip.array

    came_before : Before s p q b try-touches.adds → Quiet g before after t b try-touches.adds
    came_before k =
        let old = old_after after long try-leaves.others k.block_was in
        record {
          calm = old_calm g before after t b stored table_is free old;
          below = λ n. old_below g before after t b n stored table_is free old;
          unsent = inl k.no_program;
        }

    -- a fill that passed left the block complete
    unpassed : is_complete g (block_in g after b) ≡ false → is_passed q.outcome ≡ false
    unpassed f =
        cases (is_passed q.outcome)
        (λ y. clash (copy_complete g v c labelled main main_long main_bytes (block_in g after b) (try-leaves.done y)) f)
        (λ n. n)

    came_since : Since s q b pages try-touches.adds → ((is_passed q.outcome ≡ false) × Quiet g before after t b try-touches.adds) ⊎ Made g before after b pages try-touches.adds
    came_since k =
        let new = new_after after long try-leaves.others k.over in
        cases (is_complete g (block_in g after b))
        (λ y.
        inr (record {
          after_new = new;
          complete = y;
          sent = λ i h. ⊎_elim (λ z. z) (λ z. clash y (incomplete after long try-leaves.others i h z)) (k.sent i h);
        }))
        (λ f.
        inl (
          unpassed f,
          record {
            calm = new_calm g before after t b pages stored table_is free new f;
            below = λ n. new_below g before after t b n pages stored table_is free new f;
            unsent = inr f;
          },
        ))

    try_comes : ((is_passed q.outcome ≡ false) × Quiet g before after t b try-touches.adds) ⊎ Made g before after b pages try-touches.adds
    try_comes = ⊎_elim (λ k. inl (k.unpassed, came_before k)) came_since try-touches.here

  pub tried_from : Tried s p q t b pages
  tried_from =
      record { leaves = try-leaves; touched = try-touches; spares = try_spares; elsewhere = try_elsewhere; comes = try_comes }

pub tried : (s : Setting) → Bytes s.mask → (p : Progress) → is_passed p.outcome ≡ true → Called s p.line → line_of p ≡ 0
    → (t b : ℕ) → Stored s.geometry p.line.chip.array → current_table s.geometry p.line.chip.array ≡ at t → Free s.geometry p.line.chip.array t b
    → (c : Copy) → Labelled c → (main : ℕ → List ℕ) → ((i : ℕ) → i < s.geometry.pages → length (main i) ≡ s.geometry.main) → ((i : ℕ) → i < s.geometry.pages → Bytes (main i))
    → (source : ℕ → Source) → Meant s p.line.chip.array b c source (λ i. copy_page s.geometry c i (main i)) → Tried s p (filled s b c source p) t b (λ i. copy_page s.geometry c i (main i))
tried s mask_bytes p passed called high t b stored table_is free c labelled main main_long main_bytes source meant =
    tried_from s mask_bytes p t b stored table_is free c labelled main main_long main_bytes (filled s b c source p)
    (fill_leaves s p b free.below c source _ meant mask_bytes high passed called) (fill_touches s p b free.below c source _ meant mask_bytes high passed called)
