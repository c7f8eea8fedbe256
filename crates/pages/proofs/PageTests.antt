-- Computed pages of a small chip, of 32 main bytes and 16 spare bytes. Assumes nothing.
use Prim.Native.Nat.{ℕ}
use mathlib.Core.Bool.{true, false}
use mathlib.Core.List.{List}
use mathlib.Core.Path.{◌≡◌, refl}
use native.Mathlib.Omega.{arith}
use lib.Count.{ones_in, ones}
use lib.ListN.{length, set, replicate}
use Rattle.pages.specs.Check.{zero_bits}
use Rattle.pages.specs.Layout.{Fits, label, data_kind, number_width, bytes_of, number_of, label_bytes, encoded, kind_of, label_of, all_ones, stored_check, counted_check, whole}
use Rattle.pages.specs.Over.{Over}
use Rattle.pages.proofs.LayoutLaws.{raised-whole_any}

-- a data page of bytes FFh: logical block 0, page 0, number 2
unfoldable pub sample : List ℕ
sample = encoded 16 (label data_kind 0 0 2) (replicate 32 255)

pub sample-length : length sample ≡ 48
unfolding sample encoded label_bytes number_width bytes_of zero_bits ones ones_in
sample-length = refl

pub sample_check : stored_check 32 sample ≡ 91
unfolding sample encoded label_bytes number_width bytes_of number_of kind_of stored_check zero_bits ones ones_in
sample_check = refl

pub sample-whole : whole 32 sample ≡ true
unfolding sample encoded label_bytes number_width bytes_of number_of kind_of all_ones stored_check counted_check whole zero_bits ones ones_in
sample-whole = refl

pub sample-label : label_of 32 sample ≡ label data_kind 0 0 2
unfolding sample encoded label_bytes number_width bytes_of number_of kind_of label_of zero_bits ones ones_in
sample-label = refl

-- one bit raised, in the byte that holds the page
pub raised_not_whole : whole 32 (set sample 36 1) ≡ false
unfolding sample encoded label_bytes number_width bytes_of number_of kind_of all_ones stored_check counted_check whole zero_bits ones ones_in
raised_not_whole = refl

pub blank_not_whole : whole 32 (replicate 48 255) ≡ false
unfolding number_width kind_of whole
blank_not_whole = refl

-- the label of the sample fits, and the law of raised bits applies to it
pub sample_fits : Fits (label data_kind 0 0 2)
unfolding number_width
sample_fits = record { width_some = omega arith; kind_byte = omega arith; logical_fits = omega arith; page_byte = omega arith; number_fits = omega arith }

pub sample-raised : (p : List ℕ) → Over sample p → whole 32 p ≡ true → p ≡ sample
unfolding sample number_width
sample-raised p o h =
    raised-whole_any 16 (label data_kind 0 0 2) (replicate 32 255) p sample_fits (omega arith) (omega arith) o h

-- the same page in the layout before
old_check : stored_check 32 (encoded 16 (label 68 0 0 2) (replicate 32 255)) ≡ 61
unfolding encoded label_bytes number_width bytes_of number_of kind_of stored_check zero_bits ones ones_in
old_check = refl

-- raised to a kind of the other layout it has the check FFFFh, and is not whole
old_raised : whole 32 (set (encoded 16 (label 68 0 0 2) (replicate 32 255)) 33 100) ≡ false
unfolding encoded label_bytes number_width bytes_of number_of kind_of all_ones stored_check counted_check whole zero_bits ones ones_in
old_raised = refl
