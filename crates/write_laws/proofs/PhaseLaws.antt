-- Fills one after the other, each of a permitted block: what holds before each of them, and how they end. Assumes nothing.
use Prim.Native.Nat.{ℕ, ◌+◌, ◌*◌, ◌/◌, ◌≤◌, ◌<◌}
use mathlib.Core.Bool.{Bool, true, false, cond}
use mathlib.Core.List.{List}
use mathlib.Core.Logic.{◌⊎◌, ⊎_elim}
use mathlib.Core.Path.{◌≡◌, refl, sym, ap, subst, ◌∙◌}
use native.Mathlib.Nat.{suc-mul}
use native.Mathlib.Numerals.{add-one}
use native.Mathlib.Omega.{arith}
use borrow.Table.Steps.{cases}
use lib.Dec.{eqb}
use lib.ListN.{length}
use Rattle.geometry.specs.declared.Geometry.{Geometry}
use Rattle.geometry.specs.Limits.{Valid}
use Rattle.bools.proofs.BoolLaws.{clash, unless, or_none}
use Rattle.bitmaps.specs.Bitmap.{bit_at, with_bit}
use Rattle.bitmaps.proofs.BitmapLaws.{Bitmap, bits_more, bit_more}
use Rattle.chip_array.specs.Device.{Setting}
use Rattle.bus_polling.specs.Outcomes.{is_passed, is_failed, is_silent, is_cut_off, is_illegal, is_protected}
use Rattle.bus_polling.proofs.OutcomeLaws.{passed_answered, failed_answered, passed_unfailed, unfailed_end}
use Rattle.operations.specs.Ends.{Called}
use Rattle.state_choose.specs.Choose.{permitted, count_permitted}
use Rattle.state_choose.proofs.ChooseLaws.{count_less}
use Rattle.state.specs.State.{blank, next_number, number_end, held_bits, taken, with_invalid, Mounted}
use Rattle.state.specs.declared.State.{State}
use Rattle.request.specs.Call.{stop_answer}
use Rattle.request.proofs.CallLaws.{stop_answer_lem, stop_least, stop_silent, stop_cut}
use Rattle.progress.specs.Progress.{Progress, line_of}
use Rattle.progress.specs.Steps.{resumed}
use Rattle.damage.specs.Run.{Sound, Slow, Filled, failed_in, failed_count, block_on}
use Rattle.damage.proofs.TraceLaws.{or_assoc, unfailed-none}
use Rattle.damage.proofs.FailedLaws.{failed_same, failed_more}
use Rattle.write_laws.proofs.NextLaws.{next_invalid}
use Rattle.write_laws.specs.Changing.{ChangeAnswer, is_done, is_worn, is_spent, is_silent_fact, is_cut}

-- permitted by the bits of the block alone
pub permitted_by : (marked marked' invalid invalid' held : List ℕ) (b : ℕ) → bit_at marked b ≡ bit_at marked' b → bit_at invalid b ≡ bit_at invalid' b
    → permitted marked invalid held b ≡ permitted marked' invalid' held b
unfolding permitted
permitted_by marked marked' invalid invalid' held b e f = rw (e, f)

pub marked_unpermitted : (marked invalid held : List ℕ) (b : ℕ) → bit_at marked b ≡ true → permitted marked invalid held b ≡ false
unfolding permitted
marked_unpermitted marked invalid held b t = rw t

pub invalid_unpermitted : (marked invalid held : List ℕ) (b : ℕ) → bit_at invalid b ≡ true → permitted marked invalid held b ≡ false
unfolding permitted
invalid_unpermitted marked invalid held b t = cases (bit_at marked b) (λ m. rw m) (λ m. rw (m, t))

-- fills since state origin and request base, none of more cycles than most; total: the blocks permitted then; used: the numbers taken
-- since st₀ by fills that passed; Made tells what a fill that passes makes
module _ (s : Setting) (v : Valid s.geometry) (st₀ : State) (held : List ℕ) (origin : State) (Made : State → Progress → Type 0) (base : Progress) (most total used : ℕ) where
  abbrev g : Geometry
  g = s.geometry

  pub record Mid (st : State) (p : Progress) : Type 0 where
    pub passed : is_passed p.outcome ≡ true
    pub sound : Sound s p
    pub high : line_of p ≡ 0
    pub facts : Mounted st g.blocks g.logical
    pub held_is : held_bits st g.logical ≡ held
    pub map_long : length st.map ≡ 4096
    pub map_same : st.map ≡ origin.map
    pub kinds_same : st.kinds ≡ origin.kinds
    pub table_same : st.table ≡ origin.table
    pub marked_same : st.marked ≡ st₀.marked
    pub bits : Bitmap g.blocks st.invalid
    pub failures : (b : ℕ) → b < g.blocks → bit_at st.invalid b ≡ cond (bit_at st₀.invalid b) true (failed_in b p.started)
    pub numbers : next_number st ≡ next_number st₀ + (failed_count p.started g.blocks + used)
    pub kept : (b : ℕ) → b < g.blocks → permitted st₀.marked st₀.invalid held b ≡ false → block_on s p b ≡ block_on s base b
    pub spent : base.line.left + count_permitted st.marked st.invalid held g.blocks * most ≤ p.line.left + total * most

  -- after a fill that passed
  pub record Next (next : State) (q : Progress) : Type 0 where
    pub passed : is_passed q.outcome ≡ true
    pub called : Called s q.line
    pub high : line_of q ≡ 0
    pub facts : Mounted next g.blocks g.logical
    pub made : Made next q
    pub map_long : length next.map ≡ 4096
    pub held_more : (c : ℕ) → c < 4096 → bit_at (held_bits next g.logical) c ≡ true → (c ≡ next.last) ⊎ (bit_at held c ≡ true)
    pub marked_same : next.marked ≡ st₀.marked
    pub bits : Bitmap g.blocks next.invalid
    pub failures : (b : ℕ) → b < g.blocks → bit_at next.invalid b ≡ cond (bit_at st₀.invalid b) true (failed_in b q.started)
    pub numbers : next_number next ≡ next_number st₀ + (failed_count q.started g.blocks + (used + 1))

  pub record Ended (answer : ℕ) (next : State) (q : Progress) : Type 0 where
    pub answers : ChangeAnswer answer
    pub at_most : answer ≤ 11
    pub sound : Sound s q
    pub stopped : (answer ≡ 0 → ⊥) → next ≡ blank 2
    pub done : answer ≡ 0 → Next next q
    pub kept : (b : ℕ) → b < g.blocks → permitted st₀.marked st₀.invalid held b ≡ false → block_on s q b ≡ block_on s base b
    pub spent : base.line.left ≤ q.line.left + total * most
    pub worn_by : answer ≡ 8 → (b : ℕ) → b < g.blocks → permitted st₀.marked st₀.invalid held b ≡ true → failed_in b q.started ≡ true
    pub spent_by : answer ≡ 9 → number_end ≤ next_number st₀ + (failed_count q.started g.blocks + used)
    pub silent_by : answer ≡ 10 → Slow s.fates
    pub used_up : answer ≡ 11 → q.line.left ≡ 0

  module _ (st : State) (p : Progress) (m : Mid st p) where
    pub ended_spent : number_end ≤ next_number st → Ended 9 (blank 2) p
    ended_spent h =
        record {
          answers = is_spent;
          at_most = omega arith;
          sound = m.sound;
          stopped = λ z. refl;
          done = λ z. absurd (omega (arith, z));
          kept = m.kept;
          spent = omega (arith, m.spent);
          worn_by = λ z. absurd (omega (arith, z));
          spent_by = λ z. omega (arith, h, m.numbers);
          silent_by = λ z. absurd (omega (arith, z));
          used_up = λ z. absurd (omega (arith, z));
        }

    pub ended_worn : ((b : ℕ) → b < g.blocks → permitted st.marked st.invalid held b ≡ false) → Ended 8 (blank 2) p
    ended_worn none =
        record {
          answers = is_worn;
          at_most = omega arith;
          sound = m.sound;
          stopped = λ z. refl;
          done = λ z. absurd (omega (arith, z));
          kept = m.kept;
          spent = omega (arith, m.spent);
          worn_by = λ z b h t. cases (failed_in b p.started) (λ y. y) (λ f. clash (still b h f ∙ t) (none b h));
          spent_by = λ z. absurd (omega (arith, z));
          silent_by = λ z. absurd (omega (arith, z));
          used_up = λ z. absurd (omega (arith, z));
        }
      where
        still : (b : ℕ) → b < g.blocks → failed_in b p.started ≡ false → permitted st.marked st.invalid held b ≡ permitted st₀.marked st₀.invalid held b
        still b h f =
            permitted_by st.marked st₀.marked st.invalid st₀.invalid held b (ap (λ (x : List ℕ). bit_at x b) m.marked_same)
            (m.failures b h ∙ ap (cond (bit_at st₀.invalid b) true) f ∙ or_none (bit_at st₀.invalid b))

    -- block b is filled
    module _ (b : ℕ) (below : b < g.blocks) (may : permitted st.marked st.invalid held b ≡ true) (q : Progress) (pages : ℕ → List ℕ) (n : ℕ) (left : Filled s p q b pages n most) where
      valid_now : bit_at st.invalid b ≡ false
      unfolding permitted
      valid_now = (unless (bit_at st.invalid b) _ (unless (bit_at st.marked b) _ may).1).0

      -- it was valid at the start, and has not failed
      neither : (a c : Bool) → cond a true c ≡ false → (a ≡ false) × (c ≡ false)
      neither true c e = clash refl e
      neither false c e = (refl, e)

      was : (bit_at st₀.invalid b ≡ false) × (failed_in b p.started ≡ false)
      was = neither (bit_at st₀.invalid b) (failed_in b p.started) (sym (m.failures b below) ∙ valid_now)

      may_first : permitted st₀.marked st₀.invalid held b ≡ true
      may_first =
          permitted_by st₀.marked st.marked st₀.invalid st.invalid held b (ap (λ (x : List ℕ). bit_at x b) (sym m.marked_same)) (was.0 ∙ sym valid_now) ∙ may

      kept_next : (c : ℕ) → c < g.blocks → permitted st₀.marked st₀.invalid held c ≡ false → block_on s q c ≡ block_on s base c
      kept_next c h f =
          left.others c h (λ e. clash may_first (ap (permitted st₀.marked st₀.invalid held) (sym e) ∙ f)) ∙ m.kept c h f

      -- one permitted block less
      abbrev fewer : ℕ
      fewer = count_permitted st.marked (with_bit st.invalid b) held g.blocks

      room : b / 8 < length st.invalid
      room = omega (arith, below, v.blocks_most, m.bits.long)

      one_less : fewer + 1 ≡ count_permitted st.marked st.invalid held g.blocks
      one_less = count_less st.marked st.invalid held b room may g.blocks below

      one_fill : count_permitted st.marked st.invalid held g.blocks * most ≡ fewer * most + most
      one_fill = ap (λ (k : ℕ). k * most) (sym one_less ∙ add-one fewer) ∙ suc-mul fewer most

      spent_next : base.line.left + fewer * most ≤ q.line.left + total * most
      spent_next = omega (arith, m.spent, left.spent, one_fill)

      -- it passed: the next state has one number less and the same blocks invalid
      module _ (y : is_passed q.outcome ≡ true) where
        unfailed : (c : ℕ) → failed_in c q.started ≡ failed_in c p.started
        unfailed = unfailed-none p q b (passed_unfailed q.outcome y) left.failures

        pub ended_passed : (next : State) → Made next q → Mounted next g.blocks g.logical → length next.map ≡ 4096 → ((c : ℕ) → c < 4096 → bit_at (held_bits next g.logical) c ≡ true → (c ≡ next.last) ⊎ (bit_at (held_bits st g.logical) c ≡ true)) → next.marked ≡ st.marked → next.invalid ≡ st.invalid
            → next_number next ≡ next_number (taken st) → Ended 0 next q
        ended_passed next next_made next-facts long more marked invalid number =
            record {
              answers = is_done;
              at_most = omega arith;
              sound = left.sound;
              stopped = λ x. absurd (x refl);
              done = λ z.
                  record {
                    passed = y;
                    called = left.sound.called (passed_answered q.outcome y);
                    high = left.same_line ∙ m.high;
                    facts = next-facts;
                    made = next_made;
                    map_long = long;
                    held_more = λ c h t. subst (λ (x : List ℕ). (c ≡ next.last) ⊎ (bit_at x c ≡ true)) m.held_is (more c h t);
                    marked_same = marked ∙ m.marked_same;
                    bits = subst (Bitmap g.blocks) (sym invalid) m.bits;
                    failures = λ c h. ap (λ (x : List ℕ). bit_at x c) invalid ∙ m.failures c h ∙ ap (cond (bit_at st₀.invalid c) true) (sym (unfailed c));
                    numbers = omega (arith, number, m.numbers, failed_same p.started q.started unfailed g.blocks);
                  };
              kept = kept_next;
              spent = omega (arith, spent_next);
              worn_by = λ z. absurd (omega (arith, z));
              spent_by = λ z. absurd (omega (arith, z));
              silent_by = λ z. absurd (omega (arith, z));
              used_up = λ z. absurd (omega (arith, z));
            }

      pub ended-stopped : is_passed q.outcome ≡ false → is_failed q.outcome ≡ false → Ended (stop_answer q.outcome) (blank 2) q
      ended-stopped f w =
          let which = stop_answer_lem q.outcome (unfailed_end q.outcome left.sound.known w left.sound.unprotected) f in
          let least = stop_least q.outcome in
          record {
            answers = ⊎_elim (λ e. subst ChangeAnswer (sym e) is_silent_fact) (λ e. subst ChangeAnswer (sym e) is_cut) which;
            at_most = ⊎_elim (λ e. omega (arith, e)) (λ e. omega (arith, e)) which;
            sound = left.sound;
            stopped = λ x. refl;
            done = λ z. absurd (omega (arith, z, least));
            kept = kept_next;
            spent = omega (arith, spent_next);
            worn_by = λ z. absurd (omega (arith, z, least));
            spent_by = λ z. absurd (omega (arith, z, least));
            silent_by = λ z. left.sound.silent_by (stop_silent q.outcome z);
            used_up = λ z. left.sound.used_up (stop_cut q.outcome z);
          }

      -- it failed: another fill follows
      module _ (w : is_failed q.outcome ≡ true) where
        failed_now : (c : ℕ) → failed_in c q.started ≡ cond (failed_in c p.started) true (cond (eqb b c) true false)
        failed_now c = left.failures c ∙ ap (λ (x : Bool). cond (failed_in c p.started) true (cond (eqb b c) x false)) w

        failures_next : (c : ℕ) → c < g.blocks → bit_at (with_bit st.invalid b) c ≡ cond (bit_at st₀.invalid c) true (failed_in c q.started)
        failures_next c h =
            sym (bit_more st.invalid b c room)
            ∙ ap (λ (x : Bool). cond x true (cond (eqb b c) true false)) (m.failures c h)
            ∙ or_assoc (bit_at st₀.invalid c) (failed_in c p.started) (cond (eqb b c) true false)
            ∙ ap (cond (bit_at st₀.invalid c) true) (sym (failed_now c))

        numbers_next : next_number st + 1 ≡ next_number st₀ + (failed_count q.started g.blocks + used)
        numbers_next = omega (arith, m.numbers, failed_more p.started q.started b was.1 failed_now g.blocks below)

        pub mid_failed : Mid (with_invalid b (taken st)) (resumed q)
        unfolding is_passed is_illegal is_protected is_cut_off is_silent is_failed
        mid_failed =
            record {
              passed = refl;
              sound = record {
                legal = left.sound.legal;
                known = refl;
                unprotected = refl;
                used_up = λ e. clash e refl;
                silent_by = λ e. clash e refl;
                failed_by_fact = λ e. clash e refl;
                called = λ e. left.sound.called (failed_answered q.outcome w);
              };
              high = left.same_line ∙ m.high;
              facts = next_invalid st g.blocks g.logical v.blocks_most m.facts b below (subst (λ (x : List ℕ). permitted st.marked st.invalid x b ≡ true) (sym m.held_is) may);
              held_is = m.held_is;
              map_long = m.map_long;
              map_same = m.map_same;
              kinds_same = m.kinds_same;
              table_same = m.table_same;
              marked_same = m.marked_same;
              bits = bits_more g.blocks st.invalid b v.blocks_most below m.bits;
              failures = failures_next;
              numbers = numbers_next;
              kept = kept_next;
              spent = spent_next;
            }
