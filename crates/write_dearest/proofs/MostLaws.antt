-- No acknowledged write with so many failed fills sends more cycles than the dearest one. Assumes nothing.
use Prim.Native.Nat.{ℕ, ◌+◌, ◌-◌, ◌*◌, ◌≤◌, ◌<◌}
use mathlib.Core.Bool.{Bool, true, false, cond}
use mathlib.Core.List.{List}
use mathlib.Core.Path.{◌≡◌, refl, sym, ap, subst, ◌∙◌}
use native.Mathlib.Nat.{suc-mul, add-mul, mul-le-mul_left}
use native.Mathlib.Numerals.{add-one}
use native.Mathlib.Omega.{arith}
use borrow.Table.Steps.{cases}
use borrow.Author.Tests.{eq-eqb, ne_eqb, lt-ltb, le-ltb, ltb-true, ltb-false}
use lib.Dec.{ltb}
use lib.ListN.{get_or}
use Rattle.geometry.specs.declared.Geometry.{Geometry}
use Rattle.geometry.specs.Limits.{Valid}
use Rattle.cells.specs.Bytes.{Bytes}
use Rattle.chip_array.specs.Device.{Device, Setting}
use Rattle.state.specs.State.{next_number, numbers_left, held_bits, form_of}
use Rattle.state.specs.declared.State.{State}
use Rattle.state.proofs.MountedLaws.{mounted_facts}
use Rattle.request.specs.Call.{Result}
use Rattle.request.proofs.CallLaws.{stop_least}
use Rattle.progress.specs.Progress.{Progress}
use Rattle.pages.specs.Layout.{data_kind}
use Rattle.fill.specs.Fill.{copy, table_source, table_copy, table_filled}
use Rattle.fill_tables.specs.Tables.{Tabled, tables_filled}
use Rattle.damage.specs.Run.{Spent, program_most, read_most, source_most}
use Rattle.dearest.specs.Dearest.{copy_cycles, table_cycles, dearest_cycles}
use Rattle.write_changes.specs.Changes.{Update, Copied, copy_filled, copies_filled, change_run, write_update, writing}
use Rattle.write_changes.proofs.LoopLaws.{Copying, copies_end, Tabling, tables_end}
use Rattle.write_laws.specs.Changing.{InRange}
use Rattle.write_laws.proofs.MeantLaws as meant
use Rattle.write_dearest.specs.Dearest.{failed_fills}
use Rattle.write_dearest.proofs.CostLaws.{fill_spends}
use Rattle.write_dearest.proofs.ChipLaws.{fills_begin}
use Rattle.write_dearest.proofs.WriteLaws.{data_done, with_table_fact, without_table, not_refused, accepted, valid, written_is, failed_is}
use Rattle.write_dearest.proofs.SumLaws.{but, sum-most, copy_sum}
use Rattle.write_dearest.proofs.SourceLaws.{write_source, data_short, data_most, table_short, table_cycles_fact}

-- the fills of a write, from any place
module _ (s : Setting) (v : Valid s.geometry) (logical old page : ℕ) (bytes : List ℕ) (within : page < s.geometry.pages) where
  abbrev g : Geometry
  g = s.geometry

  abbrev u : Update
  u = record { logical = logical; old = old; first = page; count = 1; bytes = bytes }

  copy_spends : (st : State) (b : ℕ) (p : Progress) → Spent p (copy_filled s u st b p) (copy_cycles g)
  copy_spends st b p =
      omega
      (arith, fill_spends s v b (copy data_kind logical (next_number st)) (write_source g old (form_of st logical) page bytes) (data_short g old (form_of st logical) page bytes) p, sum-most (λ i. source_most g (write_source g old (form_of st logical) page bytes i)) (but (program_most g) (read_most g.main) page) g.pages (λ i h. data_most g old (form_of st logical) page bytes i), copy_sum g v page within)

  table_spends : (st : State) (b : ℕ) (p : Progress) → Spent p (table_filled s b (next_number st) st.invalid p) (table_cycles g)
  table_spends st b p =
      omega
      (arith, fill_spends s v b (table_copy (next_number st)) (table_source g st.invalid) (table_short g v st.invalid) p, table_cycles_fact g v st.invalid)

  -- one fill more, of so many cycles
  more_spent : (first p q : Progress) (fills each : ℕ) → Spent first p (fills * each) → Spent p q each → Spent first q ((fills + 1) * each)
  more_spent first p q fills each h k = omega (arith, h, k, ap (λ (n : ℕ). n * each) (add-one fills) ∙ suc-mul fills each)

  module _ (st₀ : State) (below₀ : st₀.last < g.blocks) (first : Progress) (held : List ℕ) where
    -- before a data fill: those that failed
    record Before (st : State) (f : Bool) (p : Progress) : Type 0 where
      last_below : st.last < g.blocks
      fills : ℕ
      numbers : next_number st ≡ next_number st₀ + fills
      spent : Spent first p (fills * copy_cycles g)
      any_failed : f ≡ ltb 0 fills

    -- after one that passed
    pub record Copies (c : Copied) : Type 0 where
      pub last_below : c.state.last < g.blocks
      pub fills : ℕ
      pub some : 0 < fills
      pub numbers : next_number c.state ≡ next_number st₀ + fills
      pub spent : Spent first c.progress (fills * copy_cycles g)
      pub any_failed : c.failed ≡ ltb 1 fills

    abbrev Ends : Copied → Type 0
    Ends c = c.answer ≡ 0 → Copies c

    copying : Copying s held u Before Ends
    copying =
        record {
          last_below = λ st f p x. x.last_below;
          spent = λ st f p x h z. absurd (omega (arith, z));
          worn = λ st f p x h none z. absurd (omega (arith, z));
          passed = λ st f p x h b below may y z.
              record {
                last_below = below;
                fills = x.fills + 1;
                some = omega arith;
                numbers = omega (arith, x.numbers);
                spent = more_spent first p (copy_filled s u st b p) x.fills (copy_cycles g) x.spent (copy_spends st b p);
                any_failed = x.any_failed ∙ more_than x.fills;
              };
          failed = λ st f p x h b below may w.
              record {
                last_below = x.last_below;
                fills = x.fills + 1;
                numbers = omega (arith, x.numbers);
                spent = more_spent first p (copy_filled s u st b p) x.fills (copy_cycles g) x.spent (copy_spends st b p);
                any_failed = sym (lt-ltb 0 (x.fills + 1) (omega arith));
              };
          stopped = λ st f p x h b below may y w z. absurd (omega (arith, z, stop_least (copy_filled s u st b p).outcome));
        }
      where
        more_than : (n : ℕ) → ltb 0 n ≡ ltb 1 (n + 1)
        more_than n =
            cases (ltb 0 n)
            (λ t. t ∙ sym (lt-ltb 1 (n + 1) (omega (arith, ltb-true 0 n t))))
            (λ f. f ∙ sym (le-ltb 1 (n + 1) (omega (arith, ltb-false 0 n f))))

    pub copies_spend : Ends (copies_filled s held u (numbers_left st₀) false st₀ first)
    copies_spend =
        copies_end s held u Before Ends copying (numbers_left st₀) st₀ false first
        (record { last_below = below₀; fills = 0; numbers = omega arith; spent = omega arith; any_failed = refl })
        refl

    record TableBefore (st : State) (p : Progress) : Type 0 where
      last_below : st.last < g.blocks
      fills : ℕ
      numbers : next_number st ≡ next_number st₀ + fills
      spent : Spent first p (fills * table_cycles g)

    pub record Tables (t : Tabled) : Type 0 where
      pub fills : ℕ
      pub some : 0 < fills
      pub numbers : next_number t.state ≡ next_number st₀ + fills
      pub spent : Spent first t.progress (fills * table_cycles g)

    abbrev TableEnds : Tabled → Type 0
    TableEnds t = t.answer ≡ 0 → Tables t

    tabling : Tabling s held TableBefore TableEnds
    tabling =
        record {
          last_below = λ st p x. x.last_below;
          spent = λ st p x h z. absurd (omega (arith, z));
          worn = λ st p x h none z. absurd (omega (arith, z));
          passed = λ st p x h b below may y z.
              record {
                fills = x.fills + 1;
                some = omega arith;
                numbers = omega (arith, x.numbers);
                spent = more_spent first p (table_filled s b (next_number st) st.invalid p) x.fills (table_cycles g) x.spent (table_spends st b p);
              };
          failed = λ st p x h b below may w.
              record {
                last_below = x.last_below;
                fills = x.fills + 1;
                numbers = omega (arith, x.numbers);
                spent = more_spent first p (table_filled s b (next_number st) st.invalid p) x.fills (table_cycles g) x.spent (table_spends st b p);
              };
          stopped = λ st p x h b below may y w z. absurd (omega (arith, z, stop_least (table_filled s b (next_number st) st.invalid p).outcome));
        }

    pub tables_spend : TableEnds (tables_filled s held (numbers_left st₀) st₀ first)
    tables_spend =
        tables_end s held TableBefore TableEnds tabling (numbers_left st₀) st₀ first
        (record { last_below = below₀; fills = 0; numbers = omega arith; spent = omega arith })
        refl

-- no fill that failed costs more than a data fill
fills_cost : (copies tables failed c t : ℕ) → t ≤ c → copies + tables ≡ failed + 1 → copies * c + (tables + 1) * t ≤ (failed + 1) * c + t
fills_cost copies tables failed c t less e =
    let all : (copies + tables) * c ≡ (failed + 1) * c = ap (λ (n : ℕ). n * c) e in
    let last : (tables + 1) * t ≡ tables * t + t = ap (λ (n : ℕ). n * t) (add-one tables) ∙ suc-mul tables t in
    omega (arith, all, last, add-mul copies tables c, mul-le-mul_left tables less)

-- the fills of an acknowledged write from any place, by the numbers that they took
module _ (s : Setting) (v : Valid s.geometry) (logical old page : ℕ) (bytes : List ℕ) (within : page < s.geometry.pages) (st : State) (below : st.last < s.geometry.blocks) (first : Progress) where
  abbrev update : Update
  update = record { logical = logical; old = old; first = page; count = 1; bytes = bytes }

  abbrev made : Copied
  made = copies_filled s (held_bits st s.geometry.logical) update (numbers_left st) false st first

  abbrev all : Tabled
  all = change_run s st update first

  module _ (failed : ℕ) (numbers : next_number all.state ≡ next_number st + (failed + 1 + cond made.failed 1 0)) (acknowledged : all.answer ≡ 0) where
    abbrev Few : Type 0
    Few = first.line.left + 2 ≤ all.progress.line.left + dearest_cycles s.geometry failed

    done : made.answer ≡ 0
    done = data_done s made acknowledged

    copies : Copies s v logical old page bytes within st below first (held_bits st s.geometry.logical) made
    copies = copies_spend s v logical old page bytes within st below first (held_bits st s.geometry.logical) done

    tables_few : made.failed ≡ true → Few
    unfolding dearest_cycles
    tables_few t =
        let e = with_table_fact s made done t in
        let tables = tables_spend s v logical old page bytes within made.state copies.last_below made.progress (held_bits made.state s.geometry.logical) (sym (ap (λ (x : Tabled). x.answer) e) ∙ acknowledged) in
        let some : 1 < copies.fills = ltb-true 1 copies.fills (sym copies.any_failed ∙ t) in
        let taken = subst (λ (b : Bool). next_number all.state ≡ next_number st + (failed + 1 + cond b 1 0)) t numbers in
        let count : copies.fills + (tables.fills - 1) ≡ failed + 1 = omega (arith, copies.numbers, tables.numbers, tables.some, ap (λ (x : Tabled). next_number x.state) e, taken) in
        let c = copy_cycles s.geometry in
        let last : tables.fills * table_cycles s.geometry ≡ (tables.fills - 1 + 1) * table_cycles s.geometry = ap (λ (k : ℕ). k * table_cycles s.geometry) (omega (arith, tables.some)) in
        let cost = fills_cost copies.fills (tables.fills - 1) failed c (table_cycles s.geometry) (omega arith) count in
        rw (ne_eqb failed 0 (λ z. omega (arith, z, count, some)))
        (omega (arith, copies.spent, tables.spent, ap (λ (x : Tabled). x.progress.line.left) e, cost, last))

    copy_few : made.failed ≡ false → Few
    unfolding dearest_cycles
    copy_few f =
        let e = without_table s made done f in
        let one : copies.fills ≤ 1 = ltb-false 1 copies.fills (sym copies.any_failed ∙ f) in
        let taken = subst (λ (b : Bool). next_number all.state ≡ next_number st + (failed + 1 + cond b 1 0)) f numbers in
        let count : copies.fills ≡ failed + 1 = omega (arith, copies.numbers, ap (λ (x : Tabled). next_number x.state) e, taken) in
        let cost : copies.fills * copy_cycles s.geometry ≡ (failed + 1) * copy_cycles s.geometry = ap (λ (k : ℕ). k * copy_cycles s.geometry) count in
        rw (eq-eqb failed 0 (omega (arith, one, count)))
        (omega (arith, copies.spent, ap (λ (x : Tabled). x.progress.line.left) e, cost))

    pub run_spends : Few
    run_spends = cases made.failed tables_few copy_few

-- the write from the chip handed in
module _ (s : Setting) (d : Device) (n : ℕ) (st : State) (logical page : ℕ) (bytes : List ℕ) (ranged : InRange s d st) (are_bytes : Bytes bytes) where
  pub write_most : (writing s d n st logical page bytes).answer ≡ 0 → (writing s d n st logical page bytes).sent ≤ dearest_cycles s.geometry (failed_fills s d n st logical page bytes)
  write_most z =
      let taken_on = not_refused s d n st logical page bytes z in
      let a = accepted s d n st logical page bytes taken_on in
      let v = valid s d n st logical page bytes taken_on in
      let e = written_is s d n st logical page bytes taken_on in
      let u = write_update st logical page bytes in
      let proper = meant.write_proper s.geometry v st logical a.logical_below page bytes a.buffer_long are_bytes in
      let begun = fills_begin s d n st u ranged a.sizes_fit a.is_mounted proper (sym (ap (λ (r : Result). r.answer) e) ∙ z) in
      let first = begun.0 in
      let x = begun.1 in
      let below = (mounted_facts st s.geometry.blocks s.geometry.logical v.blocks_most a.is_mounted).last_below in
      let few =
      run_spends s v logical (get_or st.map logical 0) page bytes a.page_below st below first (failed_fills s d n st logical page bytes)
      (omega (arith, x.numbers, failed_is s d n st logical page bytes taken_on, ap (λ (t : Tabled). next_number t.state) x.run_is))
      (sym (ap (λ (t : Tabled). t.answer) x.run_is) ∙ sym (ap (λ (r : Result). r.answer) e) ∙ z) in
      omega (arith, few, x.status_cycles_fact, ap (λ (r : Result). r.sent) e, ap (λ (t : Tabled). t.progress.line.left) x.run_is)
