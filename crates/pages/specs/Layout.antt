-- The layout of a page: main bytes, then spare bytes with the label, the check and FFh.
use Rattle.std.specs.Prelude.{ℕ, zero, suc, ◌+◌, ◌-◌, ◌*◌, ◌/◌, ◌%◌, ◌<◌, ◌≤◌, ◌^◌, Bool, true, false, cond, List, [], ◌∷◌, ◌++◌, eqb, length, get_or, take, drop, replicate}
use Rattle.pages.specs.Check.{zero_bits}

-- what a page says of itself: its kind, its logical block, its place in the block, and its sequence number ("the number")
pub record Label : Type 0 where
  pub kind : ℕ
  pub logical : ℕ
  pub page : ℕ
  pub number : ℕ

abbrev pub label : ℕ → ℕ → ℕ → ℕ → Label
label kind logical page number = record { kind = kind; logical = logical; page = page; number = number }

-- a page with main main bytes and at least 16 spare bytes, as small as a chip's pages are
pub record Sized (main : ℕ) (p : List ℕ) : Type 0 where
  pub spare_least : main + 16 ≤ length p
  pub most : length p ≤ 4352

-- the kinds that are written: 6Ch data, 74h table
abbrev pub data_kind : ℕ
data_kind = 108

abbrev pub table_kind : ℕ
table_kind = 116

-- one of these kinds
abbrev pub among : List ℕ → ℕ → Bool
among [] k = false
among (x ∷ xs) k = cond (eqb k x) true (among xs k)

-- the kinds of data pages, and of table pages: 44h, 64h and 54h are still read
abbrev pub data_kinds : List ℕ
data_kinds = 68 ∷ 100 ∷ 108 ∷ []

abbrev pub table_kinds : List ℕ
table_kinds = 84 ∷ 116 ∷ []

unfoldable pub is_data_kind : ℕ → Bool
is_data_kind k = among data_kinds k

unfoldable pub is_table_kind : ℕ → Bool
is_table_kind k = among table_kinds k

-- the kinds whose main bytes are stored whitened: 6Ch
abbrev pub white_kinds : List ℕ
white_kinds = 108 ∷ []

unfoldable pub is_white_kind : ℕ → Bool
is_white_kind k = among white_kinds k

-- the kinds of each layout: a number of four bytes, 44h and 54h; one of eight, 64h, 6Ch and 74h
abbrev pub narrow_kinds : List ℕ
narrow_kinds = 68 ∷ 84 ∷ []

abbrev pub wide_kinds : List ℕ
wide_kinds = 100 ∷ 108 ∷ 116 ∷ []

-- the layout of a kind is given by the bytes of its number; 0 for what is no kind
unfoldable pub number_width : ℕ → ℕ
number_width k = cond (among narrow_kinds k) 4 (cond (among wide_kinds k) 8 0)

-- spare bytes: 0 is FFh, 1 the kind, 2 and 3 the logical block, 4 the page, from 5 on the number, then two of check, then FFh
abbrev pub check_at : ℕ → ℕ
check_at w = 5 + w

abbrev pub rest_at : ℕ → ℕ
rest_at w = 7 + w

-- w bytes of a number, low byte first, and the number of some bytes
unfoldable pub bytes_of : ℕ → ℕ → List ℕ
bytes_of zero n = []
bytes_of (suc w) n = n % 256 ∷ bytes_of w (n / 256)

unfoldable pub number_of : List ℕ → ℕ
number_of [] = 0
number_of (x ∷ xs) = x + 256 * number_of xs

-- spare bytes 0 to 4 + w
unfoldable pub label_bytes : Label → List ℕ
label_bytes l =
    255 ∷ l.kind ∷ (bytes_of 2 l.logical ++ (l.page ∷ bytes_of (number_width l.kind) l.number))

-- the page with these main bytes and this label; spare is the count of spare bytes
unfoldable pub encoded : ℕ → Label → List ℕ → List ℕ
encoded spare l main =
    (main ++ label_bytes l)
    ++ (bytes_of 2 (zero_bits (main ++ label_bytes l)) ++ replicate (spare - rest_at (number_width l.kind)) 255)

-- a label that has a layout and whose numbers fit their bytes
pub record Fits (l : Label) : Type 0 where
  pub width_some : 0 < number_width l.kind
  pub kind_byte : l.kind < 256
  pub logical_fits : l.logical < 65536
  pub page_byte : l.page < 256
  pub number_fits : l.number < 256 ^ number_width l.kind

-- spare bytes of a page with main main bytes
abbrev pub spare_of : ℕ → List ℕ → List ℕ
spare_of main p = drop main p

unfoldable pub kind_of : ℕ → List ℕ → ℕ
kind_of main p = get_or (spare_of main p) 1 0

abbrev pub width_of : ℕ → List ℕ → ℕ
width_of main p = number_width (kind_of main p)

unfoldable pub label_of : ℕ → List ℕ → Label
label_of main p =
    record {
      kind = kind_of main p;
      logical = number_of (take 2 (drop 2 (spare_of main p)));
      page = get_or (spare_of main p) 4 0;
      number = number_of (take (width_of main p) (drop 5 (spare_of main p)));
    }

-- every byte is FFh
unfoldable pub all_ones : List ℕ → Bool
all_ones [] = true
all_ones (x ∷ xs) = cond (eqb x 255) (all_ones xs) false

-- the check that stands on the page, and the count it should be
unfoldable pub stored_check : ℕ → List ℕ → ℕ
stored_check main p = number_of (take 2 (drop (check_at (width_of main p)) (spare_of main p)))

unfoldable pub counted_check : ℕ → List ℕ → ℕ
counted_check main p = zero_bits (take (main + check_at (width_of main p)) p)

-- a page is whole if kind, check and FFh places are right
unfoldable pub whole : ℕ → List ℕ → Bool
whole main p =
    cond (eqb (width_of main p) 0) false
    (cond (eqb (get_or (spare_of main p) 0 0) 255)
    (cond (all_ones (drop (rest_at (width_of main p)) (spare_of main p))) (eqb (stored_check main p) (counted_check main p)) false)
    false)
