-- `journal::write_record` meets its contract: its stores, in their order, make the record. Assumes nothing.
use Prim.Native.Nat.{ℕ, ◌-◌}
use mathlib.Core.List.{List, ◌++◌}
use mathlib.Core.Path.{◌≡◌, ap, ◌∙◌}
use borrow.Author.Rules.{rules}
use borrow.Rule.Slice.PartMut.{put_mid}
use lib.ListN.{length, set, take, drop, replicate, length-replicate}
use Rattle.cells.specs.Part.{put}
use Rattle.cells.proofs.PartLaws.{put-lent}
use Rattle.pages.specs.Layout.{bytes_of}
use Rattle.pages.proofs.LayoutLaws.{length-bytes_of}
use Rattle.journal.proofs.CodeLaws.{two_bytes, first_bytes, four_bytes, record_made}
use Rattle.journal.proofs.write_record.Goals as goal

-- bytes written in a part
written : (at k : ℕ) (ys zs xs : List ℕ) → ys ≡ zs → length zs ≡ k → put_mid at k xs ys ≡ put at zs xs
written at k ys zs xs e long = ap (λ (bytes : List ℕ). put_mid at k xs bytes) e ∙ put-lent at k zs xs long

pub returns : goal.returns
returns c =
    let r = c.args.sale in
    let number : c.copy_from_slice.new.self ≡ bytes_of 2 c.args.number = c.copy_from_slice.ensures.after ∙ ap (take 2) c.to_le_bytes.ensures ∙ first_bytes c.args.number in
    let count : c.copy_from_slice-2.new.self ≡ bytes_of 2 r.count = c.copy_from_slice-2.ensures.after ∙ c.to_le_bytes-2.ensures ∙ two_bytes r.count in
    let price : c.copy_from_slice-3.new.self ≡ bytes_of 4 r.price = c.copy_from_slice-3.ensures.after ∙ c.to_le_bytes-3.ensures ∙ four_bytes r.price in
    let replaces : c.copy_from_slice-4.new.self ≡ bytes_of 2 r.replaces = c.copy_from_slice-4.ensures.after ∙ c.to_le_bytes-4.ensures ∙ two_bytes r.replaces in
    let p₁ : List ℕ = c.copy_from_slice.new.self ++ drop 2 c.args.page.now in
    let p₂ : List ℕ = put_mid 3 2 (set p₁ 2 r.selection) c.copy_from_slice-2.new.self in
    let p₃ : List ℕ = put_mid 5 4 p₂ c.copy_from_slice-3.new.self in
    let p₄ : List ℕ = put_mid 9 2 p₃ c.copy_from_slice-4.new.self in
    let rest : c.fill.new.self ≡ replicate (length p₄ - 11) 255 = search rules in
    record_made c.args.number r c.args.page.now p₁ p₂ p₃ p₄ _ c.requires
    (written 0 2 _ (bytes_of 2 c.args.number) c.args.page.now number (length-bytes_of 2 c.args.number))
    (written 3 2 _ (bytes_of 2 r.count) (set p₁ 2 r.selection) count (length-bytes_of 2 r.count))
    (written 5 4 _ (bytes_of 4 r.price) p₂ price (length-bytes_of 4 r.price))
    (written 9 2 _ (bytes_of 2 r.replaces) p₃ replaces (length-bytes_of 2 r.replaces))
    (written 11 (length p₄ - 11) _ (replicate (length p₄ - 11) 255) p₄ rest (length-replicate (length p₄ - 11) 255))
