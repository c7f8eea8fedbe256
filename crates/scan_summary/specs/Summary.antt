-- What the pages of a block tell, taken one after the other: the summary that mounts and formatting share.
use Rattle.std.specs.Prelude.{ℕ, zero, suc, max, Bool, true, false, cond, List, eqb, ltb, get_or}
use Rattle.geometry.specs.declared.Geometry.{Geometry}
use Rattle.pages.specs.Layout.{Label, label, label_of, whole}
use Rattle.copies.specs.Blocks.{agrees, page_in}
use Rattle.scan_summary.specs.declared.Summary.{Summary}

abbrev pub blank_summary : Summary
blank_summary = record { marked = false; complete = false; kind = 0; logical = 0; number = 0; any = false; greatest = 0 }

-- a page among the first two with another byte than FFh in its place marks the block
unfoldable pub marked_by : ℕ → ℕ → List ℕ → Bool → Bool
marked_by main place page marked = cond (ltb place 2) (cond (eqb (get_or page main 0) 255) marked true) marked

-- after a page that is not whole
abbrev pub broken : Bool → Summary → Summary
broken marked s =
    record { marked = marked; complete = false; kind = s.kind; logical = s.logical; number = s.number; any = s.any; greatest = s.greatest }

-- after a whole page 0, and after another whole page
abbrev pub first_page : Bool → Label → Summary → Summary
first_page marked l s =
    record {
      marked = marked;
      complete = eqb l.page 0;
      kind = l.kind;
      logical = l.logical;
      number = l.number;
      any = true;
      greatest = max s.greatest l.number;
    }

abbrev pub later_page : Bool → ℕ → Label → Summary → Summary
later_page marked place l s =
    record {
      marked = marked;
      complete = cond (agrees (label s.kind s.logical 0 s.number) place l) s.complete false;
      kind = s.kind;
      logical = s.logical;
      number = s.number;
      any = true;
      greatest = max s.greatest l.number;
    }

unfoldable pub whole_step : Bool → ℕ → Label → Summary → Summary
whole_step marked place l s = cond (eqb place 0) (first_page marked l s) (later_page marked place l s)

-- after one more page
unfoldable pub stepped : ℕ → ℕ → List ℕ → Summary → Summary
stepped main place page s =
    cond (whole main page) (whole_step (marked_by main place page s.marked) place (label_of main page) s)
    (broken (marked_by main place page s.marked) s)

-- after the first n pages of a block
unfoldable pub summed : Geometry → List ℕ → ℕ → Summary
summed g block zero = blank_summary
summed g block (suc n) = stepped g.main n (page_in g block n) (summed g block n)

-- what a summary of all pages says: complete, and a whole page without a factory mark
abbrev pub says_complete : Summary → Bool
says_complete s = cond s.marked false s.complete

abbrev pub says_number : Summary → Bool
says_number s = cond s.marked false s.any
