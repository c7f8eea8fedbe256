-- How the code ends a read, told by the definition: refused, no copy, and a page read. Assumes nothing.
use Prim.Native.Nat.{ℕ, ◌<◌}
use mathlib.Core.List.{List}
use mathlib.Core.Path.{◌≡◌, sym, ap, ap₂, ◌∙◌}
use native.Mathlib.Omega.{arith}
use borrow.Author.Tests.{eq-eqb, ne_eqb}
use lib.ListN.{length, get_or, replicate}
use Rattle.geometry.specs.Limits.{Valid}
use Rattle.chip_array.specs.Device.{Device, Setting}
use Rattle.state.specs.State.{none}
use Rattle.state.specs.declared.State.{State}
use Rattle.state.proofs.MountedLaws.{mounted_facts}
use Rattle.request.specs.Call.{Result, result_with, result_of, sized_for}
use Rattle.request.proofs.CallLaws.{sizes}
use Rattle.request_refusals.specs.Refusals.{refusal_of}
use Rattle.request_refusals.proofs.RefusalLaws.{Accepted, accepts}
use Rattle.read_page.specs.Fetching.{ReadResult, read_result, reading_block}
use Rattle.read.specs.Reading.{copy_request, reading_copy, read_request, reading_page}

module _ (s : Setting) (d : Device) (n : ℕ) (state : State) (logical page : ℕ) (buffer : List ℕ) (k : ℕ) (told : k ≡ refusal_of s d state logical page buffer) where
  pub ends_refused : {r : Result} → (k ≡ 0 → ⊥) → r ≡ result_with k state d 0 → read_result r buffer ≡ reading_page s d n state logical page buffer
  unfolding result_of read_request
  ends_refused x f =
      rw (ne_eqb (refusal_of s d state logical page buffer) 0 (λ z. x (told ∙ z)))
      (ap (λ (y : Result). read_result y buffer) (f ∙ ap (λ (y : ℕ). result_with y state d 0) told))

  module _ (none_refused : k ≡ 0) where
    pub not_refused : Accepted s.geometry (sized_for s d) state logical page (length buffer)
    not_refused =
        accepts s.geometry (sized_for s d) state logical page (length buffer) (sym told ∙ none_refused)

    pub is_valid : Valid s.geometry
    is_valid =
        (sizes s.geometry (length d.array) (length d.register) (length d.history) (length s.mask) not_refused.sizes_fit).chip_fits.is_valid

    pub in_map : logical < 4096
    in_map = omega (arith, not_refused.logical_below, is_valid.logical_most, is_valid.blocks_most)

    module _ (block form : ℕ) (entry : block ≡ get_or state.map logical 0) (form_is : form ≡ get_or state.kinds logical 0) where
      pub goes_on : reading_copy s d n state block form page buffer ≡ reading_page s d n state logical page buffer
      unfolding result_of read_request
      goes_on =
          rw (eq-eqb (refusal_of s d state logical page buffer) 0 (sym told ∙ none_refused))
          (ap₂ (λ (x y : ℕ). reading_copy s d n state x y page buffer) entry form_is)

      pub ends_empty : {r : Result} (bytes : List ℕ) → block ≡ none → r ≡ result_with 0 state d 0 → bytes ≡ replicate (length buffer) 255
          → read_result r bytes ≡ reading_page s d n state logical page buffer
      unfolding result_of copy_request
      ends_empty bytes z e f =
          ap (λ (x : Result). read_result x bytes) e
          ∙ ap (read_result (result_with 0 state d 0)) (f ∙ ap (λ (x : ℕ). replicate x 255) not_refused.buffer_long)
          ∙ sym (rw (eq-eqb block none z))
          ∙ goes_on

      module _ (full : block ≡ none → ⊥) where
        pub block_below : block < s.geometry.blocks
        block_below =
            let m = mounted_facts state s.geometry.blocks s.geometry.logical is_valid.blocks_most not_refused.is_mounted in
            omega (arith, entry, m.copy_below logical not_refused.logical_below (λ z. full (entry ∙ z)))

        pub ends_read : {r : ReadResult} → r ≡ reading_block s d n state block form page buffer → r ≡ reading_page s d n state logical page buffer
        unfolding result_of copy_request
        ends_read e = e ∙ sym (rw (ne_eqb block none full)) ∙ goes_on
