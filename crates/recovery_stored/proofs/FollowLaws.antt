-- The marks, the map and the kinds of an array, where those of another are known. Assumes nothing.
use Prim.Native.Nat.{ℕ, ◌<◌}
use mathlib.Core.List.{List}
use mathlib.Core.Path.{◌≡◌, sym, ap, ◌∙◌}
use native.Mathlib.Omega.{arith}
use borrow.Table.Steps.{cases}
use borrow.Author.Tests.{eqb-true, eqb-false}
use lib.Dec.{eqb}
use lib.ListN.{get_or, set, length-set}
use lib.Seq.{get_or-set_same, get_or-set_other}
use Rattle.geometry.specs.declared.Geometry.{Geometry}
use Rattle.copies.specs.Pick.{Pick, at}
use Rattle.copies.specs.Current.{current_copy, kind_at}
use Rattle.scan_found.specs.Contents.{entry_of, copies_of, map_in, kinds_of}
use Rattle.scan_found.specs.Found.{marks_to}
use Rattle.mount_laws.proofs.StateLaws.{copies_long, copies_entry, copies_end, copies_told}
use Rattle.format_laws.proofs.FormatLaws.{marks_same}
use Rattle.recovery_stored.specs.After.{MarksSame}

pub marks_follow : (g : Geometry) (before after : List ℕ) → MarksSame g before after → marks_to g after g.blocks ≡ marks_to g before g.blocks
marks_follow g before after same = marks_same g after before g.blocks same

-- the same copies are current, or all but those of one logical block: to functions that agree on them
module _ (g : Geometry) (before after : List ℕ) (t u : ℕ) (f h : Pick → ℕ) (past : ℕ) where
  copies_follow : ((l : ℕ) → l < g.logical → h (current_copy g after u l) ≡ f (current_copy g before t l)) → copies_of h past g after u ≡ copies_of f past g before t
  copies_follow same =
      copies_told h past g after u (copies_of f past g before t) (copies_long f past g before t) (λ l i k. copies_entry f past g before t l i k ∙ sym (same l i)) (copies_end f past g before t)

  copies_renewed : (logical x : ℕ) → logical < g.logical → h (current_copy g after u logical) ≡ x
      → ((l : ℕ) → l < g.logical → (l ≡ logical → ⊥) → h (current_copy g after u l) ≡ f (current_copy g before t l)) → copies_of h past g after u ≡ set (copies_of f past g before t) logical x
  copies_renewed logical x on_chip new same =
      let old = copies_of f past g before t in
      copies_told h past g after u (set old logical x) (length-set old logical x ∙ copies_long f past g before t)
      (λ l i k.
      cases (eqb l logical)
      (λ e.
      let here = eqb-true l logical e in
      ap (λ (j : ℕ). get_or (set old logical x) j 0) here
      ∙ get_or-set_same old logical x 0 (omega (arith, here, k, copies_long f past g before t))
      ∙ sym (ap (λ (j : ℕ). h (current_copy g after u j)) here ∙ new))
      (λ e. get_or-set_other old logical l x 0 (eqb-false l logical e) ∙ copies_entry f past g before t l i k ∙ sym (same l i (eqb-false l logical e))))
      (λ l i k. get_or-set_other old logical l x 0 (λ e. omega (arith, e, i, on_chip)) ∙ copies_end f past g before t l i k)

module _ (g : Geometry) (before after : List ℕ) (t u : ℕ) where
  pub map_follow : ((l : ℕ) → l < g.logical → current_copy g after u l ≡ current_copy g before t l) → map_in g after u ≡ map_in g before t
  unfolding map_in
  map_follow same = copies_follow g before after t u entry_of entry_of 65535 (λ l i. ap entry_of (same l i))

  pub map_renewed : (logical b : ℕ) → logical < g.logical → current_copy g after u logical ≡ at b
      → ((l : ℕ) → l < g.logical → (l ≡ logical → ⊥) → current_copy g after u l ≡ current_copy g before t l) → map_in g after u ≡ set (map_in g before t) logical b
  unfolding map_in entry_of
  map_renewed logical b on_chip new same =
      copies_renewed g before after t u entry_of entry_of 65535 logical b on_chip (ap entry_of new) (λ l i x. ap entry_of (same l i x))

  pub kinds_follow : ((l : ℕ) → l < g.logical → kind_at g after (current_copy g after u l) ≡ kind_at g before (current_copy g before t l)) → kinds_of g after u ≡ kinds_of g before t
  unfolding kinds_of
  kinds_follow = copies_follow g before after t u (kind_at g before) (kind_at g after) 0

  pub kinds_renewed : (logical kind : ℕ) → logical < g.logical → kind_at g after (current_copy g after u logical) ≡ kind
      → ((l : ℕ) → l < g.logical → (l ≡ logical → ⊥) → kind_at g after (current_copy g after u l) ≡ kind_at g before (current_copy g before t l)) → kinds_of g after u ≡ set (kinds_of g before t) logical kind
  unfolding kinds_of
  kinds_renewed = copies_renewed g before after t u (kind_at g before) (kind_at g after) 0
