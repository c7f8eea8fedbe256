-- Records of the journal, one a page: their bytes, and where the journal ends.
use Rattle.std.specs.Prelude.{ℕ, zero, suc, ◌-◌, ◌*◌, ◌/◌, ◌%◌, ◌<◌, Bool, false, cond, List, ◌∷◌, ◌++◌, eqb, leb, get_or, drop, replicate}
use Rattle.geometry.specs.declared.Geometry.{Geometry}
use Rattle.cells.specs.Part.{part}
use Rattle.pages.specs.Layout.{bytes_of, number_of, all_ones}
use Rattle.journal.specs.declared.Sale.{Sale}

-- a sale whose numbers fit their bytes
pub record SaleFits (r : Sale) : Type 0 where
  pub selection_fits : r.selection < 256
  pub count_fits : r.count < 65536
  pub price_fits : r.price < 4294967296
  pub replaces_fits : r.replaces < 65536

-- a record in a page of main bytes: number, selection, count, price in cents, number of the record it replaces; then FFh
unfoldable pub sale_bytes : ℕ → ℕ → Sale → List ℕ
sale_bytes main number r =
    (bytes_of 2 number ++ (r.selection ∷ (bytes_of 2 r.count ++ (bytes_of 4 r.price ++ bytes_of 2 r.replaces))))
    ++ replicate (main - 11) 255

-- what stands on a page
unfoldable pub number_in : List ℕ → ℕ
number_in page = number_of (part 0 2 page)

unfoldable pub selection_in : List ℕ → ℕ
selection_in page = get_or page 2 0

unfoldable pub count_in : List ℕ → ℕ
count_in page = number_of (part 3 2 page)

unfoldable pub price_in : List ℕ → ℕ
price_in page = number_of (part 5 4 page)

unfoldable pub replaces_in : List ℕ → ℕ
replaces_in page = number_of (part 9 2 page)

-- count times price
unfoldable pub amount_in : List ℕ → ℕ
amount_in page = count_in page * price_in page

-- the next record after k of them: numbers count from 1, it replaces an earlier one or 0, and FFh follows
unfoldable pub is_next : ℕ → List ℕ → Bool
is_next k page = cond (eqb (number_in page) (suc k)) (cond (leb (replaces_in page) k) (all_ones (drop 11 page)) false) false

-- pages in the order of the journal
abbrev pub Pages : Type 0
Pages = ℕ → List ℕ

-- one after the other from logical block 0, page 0 on
abbrev pub in_order : Geometry → (ℕ → ℕ → List ℕ) → Pages
in_order g page k = page (k / g.pages) (k % g.pages)

-- at most 65,535 records, and one a page of the logical blocks
unfoldable pub room : Geometry → ℕ
room g = cond (leb (g.logical * g.pages) 65535) (g.logical * g.pages) 65535

-- how many of the first n pages are records: the journal ends before the first page that is not the next record
unfoldable pub records : Pages → ℕ → ℕ
records pages zero = 0
records pages (suc n) =
    let less = records pages n in
    cond (eqb less n) (cond (is_next n (pages n)) (suc n) n) less
