-- The chip that a line leaves is the run of the cycles that it sent; no cycle is sent after an illegal answer. Assumes nothing.
use mathlib.Core.Bool.{true, false}
use mathlib.Core.List.{List, [], ◌∷◌, ◌++◌}
use mathlib.Core.Path.{◌≡◌, refl, sym, ap, ◌∙◌}
use borrow.Author.Tests.{eqb-true}
use borrow.Table.Steps.{cases}
use lib.Dec.{eqb}
use Rattle.bools.proofs.BoolLaws.{both}
use Rattle.geometry.specs.declared.Geometry.{Geometry}
use Rattle.chip_array.specs.Device.{Device, Setting, lengths_fit}
use Rattle.chip.specs.Chip.{Cycle, exec}
use Rattle.bus.specs.Line.{Line, may_go, admits, blocked, send, send_all, sent, run, goes_on, Legal}
use Rattle.bus.proofs.LineLaws.{send_on, send_off, send_all_stopped, blocked-stops, admits-stopped}
use Rattle.bus.proofs.LegalLaws.{legal_run}
use Rattle.chip_laws.specs.Lengths.{SameLengths}
use Rattle.chip_laws.proofs.LengthLaws.{run_lengths, lengths_fit_lem}

-- where a cycle is sent none before it was answered illegal
legal_of_admits : (l : Line) → admits l ≡ true → l.chip.interface.illegal ≡ 0
unfolding may_go
legal_of_admits l h =
    eqb-true _ _ (both (eqb l.chip.interface.illegal 0) _ (both (eqb l.cut 0) _ h).1).0

module _ (s : Setting) where
  -- a line that sends nothing leaves the chip
  off_keeps : (l : Line) (c : Cycle) (cs : List Cycle) → admits l ≡ false → send_all s (send s l c) cs ≡ blocked l
  off_keeps l c cs h =
      ap (λ (x : Line). send_all s x cs) (send_off s l c h) ∙ send_all_stopped s (blocked l) cs (blocked-stops l)

  pub sent_runs : (l : Line) (cs : List Cycle) → (send_all s l cs).chip ≡ run s l.chip (sent s l cs)
  unfolding send_all sent run
  sent_runs l [] = refl
  sent_runs l (c ∷ cs) =
      cases (admits l)
      (λ h. rw h (sent_runs (send s l c) cs ∙ ap (λ (x : Line). run s x.chip (sent s (send s l c) cs)) (send_on s l c h)))
      (λ h. rw h (ap (λ (x : Line). x.chip) (off_keeps l c cs h)))

  -- a line that leaves no illegal answer sent legal cycles only
  pub sent_legal : (l : Line) (cs : List Cycle) → (send_all s l cs).chip.interface.illegal ≡ 0 → Legal s l.chip (sent s l cs)
  sent_legal l cs e = legal_run s l.chip (sent s l cs) (ap (λ (x : Device). x.interface.illegal) (sym (sent_runs l cs)) ∙ e)

  -- where a cycle was sent, none before it was answered illegal
  pub sent_after_legal : (l : Line) (cs xs : List Cycle) (c : Cycle) (ys : List Cycle) → sent s l cs ≡ xs ++ (c ∷ ys) → (run s l.chip xs).interface.illegal ≡ 0
  unfolding sent run
  sent_after_legal l [] [] c ys e = cc
  sent_after_legal l [] (x ∷ xs) c ys e = cc
  sent_after_legal l (k ∷ cs) [] c ys e =
      cases (admits l) (λ h. legal_of_admits l h)
      (λ h. let n : [] ≡ c ∷ ys = rw h at e in cc)
  sent_after_legal l (k ∷ cs) (x ∷ xs) c ys e =
      cases (admits l)
      (λ h.
      let n : k ∷ sent s (send s l k) cs ≡ x ∷ (xs ++ (c ∷ ys)) = rw h at e in
      let head : k ≡ x = cc in
      let rest : sent s (send s l k) cs ≡ xs ++ (c ∷ ys) = cc in
      let chip : (send s l k).chip ≡ exec s l.chip x = ap (λ (z : Line). z.chip) (send_on s l k h) ∙ ap (exec s l.chip) head in
      ap (λ (z : Device). (run s z xs).interface.illegal) (sym chip) ∙ sent_after_legal (send s l k) cs xs c ys rest)
      (λ h. let n : [] ≡ x ∷ (xs ++ (c ∷ ys)) = rw h at e in cc)

  sent-stopped : (l : Line) (cs : List Cycle) → goes_on l ≡ false → sent s l cs ≡ []
  unfolding sent
  sent-stopped l [] h = refl
  sent-stopped l (c ∷ cs) h = rw (admits-stopped l h)

  -- the cycles sent of one list after another
  pub sent_append : (l : Line) (xs ys : List Cycle) → sent s l (xs ++ ys) ≡ sent s l xs ++ sent s (send_all s l xs) ys
  unfolding send_all sent
  sent_append l [] ys = refl
  sent_append l (x ∷ xs) ys =
      cases (admits l)
      (λ h. rw h (ap (λ (cs : List Cycle). x ∷ cs) (sent_append (send s l x) xs ys)))
      (λ h. rw h (sym (ap (λ (k : Line). sent s k ys) (off_keeps l x xs h) ∙ sent-stopped (blocked l) ys (blocked-stops l))))

  -- legal cycles after legal cycles
  pub legal_append : (d : Device) (xs ys : List Cycle) → Legal s d xs → Legal s (run s d xs) ys → Legal s d (xs ++ ys)
  unfolding run
  legal_append d [] ys g h = h
  legal_append d (x ∷ xs) ys g h = (g.0, legal_append (exec s d x) xs ys g.1 h)

  pub legal_rest : (d : Device) (xs ys : List Cycle) → Legal s d (xs ++ ys) → Legal s (run s d xs) ys
  unfolding run
  legal_rest d [] ys g = g
  legal_rest d (x ∷ xs) ys g = legal_rest (exec s d x) xs ys g.1

  -- the lengths that a line leaves
  pub send_all_lengths : (l : Line) (cs : List Cycle) → SameLengths l.chip (send_all s l cs).chip
  send_all_lengths l cs = rw (sent_runs l cs) (run_lengths s l.chip (sent s l cs))

  pub send_all_fits : (g : Geometry) (l : Line) (cs : List Cycle) → lengths_fit g (send_all s l cs).chip ≡ lengths_fit g l.chip
  send_all_fits g l cs = lengths_fit_lem g (send_all_lengths l cs)

  pub send_fits : (g : Geometry) (l : Line) (c : Cycle) → lengths_fit g (send s l c).chip ≡ lengths_fit g l.chip
  unfolding send_all
  send_fits g l c = send_all_fits g l (c ∷ [])
