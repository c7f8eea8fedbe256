-- Laws of lists of cycles on a bus: what is sent, what a stopped bus leaves alone, and where a run is cut. Assumes nothing.
use Prim.Native.Nat.{ℕ, zero, suc, ◌+◌, ◌-◌, ◌≤◌, ◌<◌}
use mathlib.Core.Bool.{true, false, true≢false}
use mathlib.Core.List.{List, [], ◌∷◌, ◌++◌}
use mathlib.Core.Path.{◌≡◌, refl, sym, ap, ◌∙◌}
use native.Mathlib.Nat.{sub-zero}
use native.Mathlib.Omega.{arith}
use borrow.Author.Tests.{eq-eqb, lt-ltb, le-ltb, eqb-true, ltb-true}
use borrow.Table.Steps.{cases}
use lib.Dec.{eqb}
use lib.ListN.{length, take}
use Rattle.bools.proofs.BoolLaws.{both}
use Rattle.chip_interface.specs.declared.Interface.{Interface}
use Rattle.chip_array.specs.Device.{Device, Setting, device}
use Rattle.chip.specs.Chip.{Cycle, exec}
use Rattle.bus.specs.declared.Bus.{Bus}
use Rattle.bus.specs.Line.{Line, line, may_go, admits, cut_after, blocked, spent, blocked_bus, spent_bus, send, send_all, sent, run, goes_on, Going, Legal, uncut_line, cut_line}

-- where a cycle is sent one is left
pub left_of_admits : (l : Line) → admits l ≡ true → 0 < l.left
unfolding may_go
left_of_admits l h =
    ltb-true 0 l.left (both (eqb l.chip.interface.illegal 0) _ (both (eqb l.cut 0) _ h).1).1

pub going : (l : Line) → goes_on l ≡ true → Going l
unfolding goes_on
going l h =
    let b = both (eqb l.cut 0) (eqb l.chip.interface.illegal 0) h in
    record { uncut = eqb-true _ _ b.0; legal = eqb-true _ _ b.1 }

pub goes : (l : Line) → Going l → goes_on l ≡ true
unfolding goes_on
goes l g = rw (eq-eqb _ _ g.uncut, eq-eqb _ _ g.legal)

pub admits_more : (l : Line) → Going l → 0 < l.left → admits l ≡ true
unfolding may_go
admits_more l g h = rw (eq-eqb _ _ g.uncut, eq-eqb _ _ g.legal, lt-ltb _ _ h)

pub admits-none : (l : Line) → Going l → l.left ≡ 0 → admits l ≡ false
unfolding may_go
admits-none l g h = rw (eq-eqb _ _ g.uncut, eq-eqb _ _ g.legal, le-ltb 0 l.left (omega arith))

-- a bus that stopped sends nothing and stays
pub admits-stopped : (l : Line) → goes_on l ≡ false → admits l ≡ false
unfolding goes_on may_go
admits-stopped l h =
    cases (eqb l.cut 0)
    (λ a. cases (eqb l.chip.interface.illegal 0) (λ b. absurd (true≢false (sym (rw (a, b)) ∙ h))) (λ b. rw (a, b)))
    (λ a. rw a)

pub blocked-stopped : (l : Line) → goes_on l ≡ false → blocked l ≡ l
unfolding goes_on cut_after
blocked-stopped l h =
    ap (λ (k : ℕ). record { chip = l.chip; left = l.left; cut = k })
    (cases (eqb l.cut 0)
    (λ a. cases (eqb l.chip.interface.illegal 0) (λ b. absurd (true≢false (sym (rw (a, b)) ∙ h))) (λ b. rw (a, b) (sym (eqb-true _ _ a))))
    (λ a. rw a))

-- after a cycle that was not sent no other is
pub blocked-stops : (l : Line) → goes_on (blocked l) ≡ false
unfolding goes_on cut_after
blocked-stops l =
    cases (eqb l.cut 0)
    (λ a. cases (eqb l.chip.interface.illegal 0) (λ b. rw (a, b)) (λ b. rw (a, b)))
    (λ a. rw (a, a))

module _ (s : Setting) where
  pub send_all_append : (l : Line) (xs ys : List Cycle) → send_all s l (xs ++ ys) ≡ send_all s (send_all s l xs) ys
  unfolding send_all
  send_all_append l [] ys = refl
  send_all_append l (x ∷ xs) ys = send_all_append (send s l x) xs ys

  pub run_append : (d : Device) (xs ys : List Cycle) → run s d (xs ++ ys) ≡ run s (run s d xs) ys
  unfolding run
  run_append d [] ys = refl
  run_append d (x ∷ xs) ys = run_append (exec s d x) xs ys

  pub send_on : (l : Line) (c : Cycle) → admits l ≡ true → send s l c ≡ spent l (exec s l.chip c)
  unfolding send
  send_on l c h = rw h

  pub send_off : (l : Line) (c : Cycle) → admits l ≡ false → send s l c ≡ blocked l
  unfolding send
  send_off l c h = rw h

  -- the bus after a cycle that was sent, and after one that was not
  pub line_sent : {r : Bus} {i : Interface} {x y z : List ℕ} (b : Bus) (a p h : List ℕ) (c : Cycle) → r ≡ spent_bus b i → device i x y z ≡ exec s (device b.interface a p h) c → may_go b.cut b.interface.illegal b.left ≡ true → line r x y z ≡ send s (line b a p h) c
  line_sent {x = x} {y = y} {z = z} b a p h c e k t =
      ap (λ (v : Bus). line v x y z) e ∙ ap (spent (line b a p h)) k ∙ sym (send_on (line b a p h) c t)

  pub line_kept : {r : Bus} {a p h : List ℕ} (b : Bus) (c : Cycle) → r ≡ blocked_bus b → may_go b.cut b.interface.illegal b.left ≡ false → line r a p h ≡ send s (line b a p h) c
  line_kept {a = a} {p = p} {h = h} b c e t = ap (λ (v : Bus). line v a p h) e ∙ sym (send_off (line b a p h) c t)

  pub send_stopped : (l : Line) (c : Cycle) → goes_on l ≡ false → send s l c ≡ l
  send_stopped l c h = send_off l c (admits-stopped l h) ∙ blocked-stopped l h

  pub send_all_stopped : (l : Line) (cs : List Cycle) → goes_on l ≡ false → send_all s l cs ≡ l
  unfolding send_all
  send_all_stopped l [] h = refl
  send_all_stopped l (c ∷ cs) h = rw (send_stopped l c h) (send_all_stopped l cs h)

  -- each cycle of the run is sent and counted, or the run stops: what was left is what was sent and what is left
  pub sent_counts : (l : Line) (cs : List Cycle) → length (sent s l cs) + (send_all s l cs).left ≡ l.left
  unfolding sent send_all
  sent_counts l [] = omega arith
  sent_counts l (c ∷ cs) =
      cases (admits l)
      (λ h. rw h
      (omega
      (arith, sent_counts (send s l c) cs, ap (λ (x : Line). x.left) (send_on l c h), left_of_admits l h)))
      (λ h. rw h (omega (arith, ap (λ (x : Line). x.left) (ap (λ (x : Line). send_all s x cs) (send_off l c h) ∙ send_all_stopped (blocked l) cs (blocked-stops l)))))

  -- one legal cycle, and one that is cut off
  pub send_one : (d : Device) (n : ℕ) (c : Cycle) → d.interface.illegal ≡ 0 → send s (uncut_line d (suc n)) c ≡ uncut_line (exec s d c) n
  send_one d n c e =
      send_on (uncut_line d (suc n)) c (admits_more (uncut_line d (suc n)) (record { uncut = refl; legal = e }) (omega arith))
      ∙ ap (uncut_line (exec s d c)) (omega arith)

  pub send_none : (d : Device) (c : Cycle) → d.interface.illegal ≡ 0 → send s (uncut_line d 0) c ≡ cut_line d
  unfolding cut_after
  send_none d c e =
      send_off (uncut_line d 0) c (admits-none (uncut_line d 0) (record { uncut = refl; legal = e }) refl)
      ∙ rw (eq-eqb d.interface.illegal 0 e)

  pub cut_stays : (d : Device) (cs : List Cycle) → send_all s (cut_line d) cs ≡ cut_line d
  unfolding goes_on
  cut_stays d cs = send_all_stopped (cut_line d) cs refl

  -- a run of legal cycles that the allowance covers
  pub run_uncut : (d : Device) (n : ℕ) (cs : List Cycle) → d.interface.illegal ≡ 0 → Legal s d cs → length cs ≤ n → send_all s (uncut_line d n) cs ≡ uncut_line (run s d cs) (n - length cs)
  unfolding send_all run
  run_uncut d n [] e g h = rw sub-zero
  run_uncut d zero (c ∷ cs) e g h = absurd (omega arith)
  run_uncut d (suc n) (c ∷ cs) e g h =
      rw (send_one d n c e)
      (run_uncut (exec s d c) n cs g.0 g.1 (omega arith) ∙ ap (uncut_line (run s (exec s d c) cs)) (omega arith))

  -- one that the allowance does not cover is the run of as many cycles as it does, and then the cut
  pub run_cut : (d : Device) (n : ℕ) (cs : List Cycle) → d.interface.illegal ≡ 0 → Legal s d cs → n < length cs → send_all s (uncut_line d n) cs ≡ cut_line (run s d (take n cs))
  unfolding send_all run
  run_cut d n [] e g h = absurd (omega arith)
  run_cut d zero (c ∷ cs) e g h = rw (send_none d c e) (cut_stays d cs)
  run_cut d (suc n) (c ∷ cs) e g h = rw (send_one d n c e) (run_cut (exec s d c) n cs g.0 g.1 (omega arith))

  -- the cycles sent are the first of the list, as many as the allowance covers
  pub sent_first : (d : Device) (n : ℕ) (cs : List Cycle) → d.interface.illegal ≡ 0 → Legal s d cs → sent s (uncut_line d n) cs ≡ take n cs
  unfolding sent
  sent_first d zero [] e g = refl
  sent_first d (suc n) [] e g = refl
  sent_first d zero (c ∷ cs) e g = rw (admits-none (uncut_line d 0) (record { uncut = refl; legal = e }) refl)
  sent_first d (suc n) (c ∷ cs) e g =
      rw (admits_more (uncut_line d (suc n)) (record { uncut = refl; legal = e }) (omega arith), send_one d n c e)
      (ap (λ (xs : List Cycle). c ∷ xs) (sent_first (exec s d c) n cs g.0 g.1))
