-- What a read leaves for whoever does not look at its cycles, and what it adds to a request on its way. Assumes nothing.
use Prim.Native.Nat.{ℕ, ◌+◌, ◌*◌, ◌≤◌}
use mathlib.Core.Bool.{true, false}
use mathlib.Core.List.{List, ◌++◌, append-nil}
use mathlib.Core.Path.{◌≡◌, sym, ap, subst, ◌∙◌}
use native.Mathlib.Omega.{arith}
use lib.ListN.{length, drop_of_length-le}
use Rattle.geometry.specs.Sizes.{page_size}
use Rattle.geometry.proofs.SizeLaws.{row_within}
use Rattle.cells.specs.Cells.{over}
use Rattle.cells.specs.Part.{part}
use Rattle.cells.proofs.PartLaws.{length_part}
use Rattle.chip_array.specs.Device.{Setting}
use Rattle.bus.specs.Line.{Line, send_all}
use Rattle.bus_polling.specs.Outcomes.{is_passed}
use Rattle.bus_sequences.specs.Cycles.{read_cycles, read_outcome, read_outputs}
use Rattle.bus_polling.specs.declared.Outcome.{Outcome}
use Rattle.bus_polling.specs.declared.Outcome.TheVariants.{Passed}
use Rattle.operations.specs.Ends.{Called, CanRead, End, end_of_read, read_end}
use Rattle.operations.proofs.ReadLaws.{read_ends, read_bytes, read_next}
use Rattle.progress.specs.Progress.{Progress, progress, read_on}

-- line m and outcome o after a read, and the bytes in its buffer
pub record Read (s : Setting) (l m : Line) (o : Outcome) (row column n : ℕ) (bytes : List ℕ) : Type 0 where
  pub same_array : m.chip.array ≡ l.chip.array
  pub same_history : m.chip.history ≡ l.chip.history
  pub bytes_are : is_passed o ≡ true → bytes ≡ part (row * page_size s.geometry + column) n l.chip.array
  pub next : is_passed o ≡ true → Called s m

module _ (s : Setting) (l : Line) (row column n : ℕ) (p : CanRead s l row column n) where
  outcome_is : read_outcome s l row column n ≡ (read_end s l n).outcome
  unfolding end_of_read
  outcome_is = ap (λ (e : End). e.outcome) (read_ends s l row column n p)

  array_stays : (send_all s l (read_cycles s l row column n)).chip.array ≡ l.chip.array
  unfolding end_of_read read_end
  array_stays = ap (λ (e : End). e.array) (read_ends s l row column n p)

  history_stays : (send_all s l (read_cycles s l row column n)).chip.history ≡ l.chip.history
  unfolding end_of_read read_end
  history_stays = ap (λ (e : End). e.history) (read_ends s l row column n p)

  long : length (part (row * page_size s.geometry + column) n l.chip.array) ≡ n
  long =
      length_part (row * page_size s.geometry + column) n l.chip.array
      (omega (arith, row_within s.geometry p.called.is_valid row p.row_below, p.called.array_long, p.within))

  -- from what the contract of a read says
  pub read_leaves : (m : Line) (o : Outcome) (buffer bytes : List ℕ) → length buffer ≡ n → m ≡ send_all s l (read_cycles s l row column n) → o ≡ read_outcome s l row column n
      → bytes ≡ over (read_outputs s l row column n) buffer → Read s l m o row column n bytes
  read_leaves m o buffer bytes h e q f =
      let passed : is_passed o ≡ true → is_passed (read_end s l n).outcome ≡ true = λ t. sym (ap is_passed (q ∙ outcome_is)) ∙ t in
      record {
        same_array = ap (λ (x : Line). x.chip.array) e ∙ array_stays;
        same_history = ap (λ (x : Line). x.chip.history) e ∙ history_stays;
        bytes_are = λ t.
            let out = read_bytes s l row column n p (passed t) in
            let k : length buffer ≤ length (read_outputs s l row column n) = omega (arith, h, ap length out ∙ long) in
            f ∙ ap (λ (x : List ℕ). read_outputs s l row column n ++ x) (drop_of_length-le buffer {i = length (read_outputs s l row column n)} k) ∙ append-nil (read_outputs s l row column n) ∙ out;
        next = λ t. subst (Called s) (sym e) (read_next s l row column n p (passed t));
      }

-- a read that is due, in a request that has reached line m
module _ (s : Setting) (row column n : ℕ) (p : Progress) (m : Line) (e : p.line ≡ m) (t : is_passed p.outcome ≡ true) where
  pub read_line : (read_on s row column n p).line ≡ send_all s m (read_cycles s m row column n)
  unfolding read_on
  read_line = rw t (ap (λ (x : Line). send_all s x (read_cycles s x row column n)) e)

  pub read_outcome_fact : (read_on s row column n p).outcome ≡ read_outcome s m row column n
  unfolding read_on
  read_outcome_fact = rw t (ap (λ (x : Line). read_outcome s x row column n) e)

-- one that is not
pub read_stopped : (s : Setting) (row column n : ℕ) (p : Progress) → is_passed p.outcome ≡ false → read_on s row column n p ≡ p
unfolding read_on
read_stopped s row column n p f = rw f

-- a request that has come to line m, all passed
pub same_progress : (p : Progress) (m : Line) → m ≡ p.line → Passed ≡ p.outcome → progress m Passed p.cycles p.started ≡ p
same_progress p m e q = λ i. record { line = e i; outcome = q i; cycles = p.cycles; started = p.started }
