-- A write that bears any number of failed fills up to blocks - 3: on a new chip, with a state that has a table and one copy. Assumes nothing.
use Prim.Native.Nat.{ℕ, zero, suc, ◌+◌, ◌-◌, ◌≤◌, ◌<◌}
use mathlib.Core.Bool.{true, false}
use mathlib.Core.List.{List}
use mathlib.Core.Logic.{⊎_elim}
use mathlib.Core.Path.{◌≡◌, refl, sym, ap, ◌∙◌}
use native.Mathlib.Omega.{arith}
use borrow.Table.Steps.{cases}
use borrow.Author.Tests.{eqb-true, eqb-false, ltb-true, ltb-false}
use lib.Dec.{eqb, ltb}
use lib.ListN.{length, get_or, set, replicate, length-set, length-replicate, get_or-replicate}
use lib.Seq.{get_or-set_same, get_or-set_other}
use Rattle.geometry.specs.declared.Geometry.{Geometry}
use Rattle.geometry.specs.Limits.{Valid}
use Rattle.geometry.specs.Sizes.{page_size, block_size, chip_size}
use Rattle.cells.proofs.CellLaws.{bytes_replicate}
use Rattle.bitmaps.specs.Bitmap.{bit_at}
use Rattle.bitmaps.proofs.BitmapLaws.{blank-bit, bits_none}
use Rattle.chip_interface.specs.Interface.{powered_on}
use Rattle.chip_array.specs.Device.{Device, device, setting}
use Rattle.bus.specs.Line.{uncut_line}
use Rattle.state_choose.specs.Choose.{permitted, count_permitted}
use Rattle.state.specs.State.{none, mounted_with, held_bits, mounted, Mounted, free_blocks}
use Rattle.state.specs.declared.State.{State}
use Rattle.state.proofs.MountedLaws.{mounted_holds}
use Rattle.request.specs.Call.{sized_for}
use Rattle.request.proofs.CallLaws.{called_sized}
use Rattle.request_refusals.proofs.RefusalLaws.{accepted}
use Rattle.write_laws.specs.Changing.{InRange}
use Rattle.write_laws.proofs.NextLaws.{held_from}
use Rattle.write_dearest.specs.Dearest.{Borne}

-- where every block from 2 on may be filled
pub count_others : (marked invalid held : List ℕ) (n : ℕ) → ((b : ℕ) → 2 ≤ b → b < n → permitted marked invalid held b ≡ true) → n ≤ count_permitted marked invalid held n + 2
unfolding count_permitted
count_others marked invalid held zero may = omega arith
count_others marked invalid held (suc n) may =
    cases (ltb n 2)
    (λ t. omega (arith, ltb-true n 2 t))
    (λ f.
    let less = count_others marked invalid held n (λ b h l. may b h (omega (arith, l))) in
    rw (may n (ltb-false n 2 f) (omega arith)) (omega (arith, less)))

module _ (g : Geometry) (v : Valid g) where
  -- a new chip, all FFh, at power on
  abbrev new_chip : Device
  new_chip = device powered_on (replicate (chip_size g) 255) (replicate (page_size g) 255) (replicate g.blocks 0)

  abbrev whole_mask : List ℕ
  whole_mask = replicate (block_size g) 255

  -- the table in block 0 and a copy of logical block 0 in block 1, which was filled last
  abbrev entries : List ℕ
  entries = set (replicate 4096 none) 0 1

  abbrev two_held : State
  two_held = mounted_with 2 0 1 (replicate 512 0) (replicate 512 0) entries (replicate 4096 0)

  first_entry : get_or entries 0 0 ≡ 1
  first_entry = get_or-set_same (replicate 4096 none) 0 1 0 (omega (arith, length-replicate {A = ℕ} 4096 none))

  other_entry : (l : ℕ) → l < 4096 → (l ≡ 0 → ⊥) → get_or entries l 0 ≡ none
  other_entry l h x = get_or-set_other (replicate 4096 none) 0 l 1 0 x ∙ get_or-replicate 4096 l none 0 h

  -- an entry of the map that is not empty is the first
  is_first : (l : ℕ) → l < g.logical → (get_or entries l 0 ≡ none → ⊥) → l ≡ 0
  is_first l h x =
      cases (eqb l 0) (λ t. eqb-true l 0 t) (λ f. absurd (x (other_entry l (omega (arith, h, v.logical_most, v.blocks_most)) (eqb-false l 0 f))))

  entry_one : (l : ℕ) → l < g.logical → (get_or entries l 0 ≡ none → ⊥) → get_or entries l 0 ≡ 1
  entry_one l h x = ap (λ (k : ℕ). get_or entries k 0) (is_first l h x) ∙ first_entry

  facts : Mounted two_held g.blocks g.logical
  facts =
      record {
        status_one = refl;
        last_below = omega (arith, v.blocks_least);
        marks_end = λ b h l. blank-bit 512 b;
        invalid_end = λ b h l. blank-bit 512 b;
        apart = λ b h t. blank-bit 512 b;
        entries_end = λ l h k. other_entry l k (λ e. omega (arith, e, h, v.logical_least));
        table_below = omega (arith, v.blocks_least);
        table_unmarked = blank-bit 512 0;
        table_valid = blank-bit 512 0;
        copy_below = λ l h x. omega (arith, entry_one l h x, v.blocks_least);
        copy_unmarked = λ l h x. blank-bit 512 (get_or entries l 0);
        copy_valid = λ l h x. blank-bit 512 (get_or entries l 0);
        copy_off_table = λ l h x e. omega (arith, e, entry_one l h x);
        once = λ l k h i y x e. y (is_first l h x ∙ sym (is_first k i (λ z. x (e ∙ z))));
      }

  is_mounted : mounted two_held g.blocks g.logical ≡ true
  is_mounted = mounted_holds two_held g.blocks g.logical v.blocks_most facts

  -- every block but these two may be filled
  unheld : (b : ℕ) → 2 ≤ b → b < g.blocks → bit_at (held_bits two_held g.logical) b ≡ false
  unheld b h l =
      cases (bit_at (held_bits two_held g.logical) b)
      (λ t.
      absurd
      (⊎_elim (λ e. omega (arith, e, h))
      (λ e.
      cases (eqb (get_or entries e.place 0) none)
      (λ z. omega (arith, eqb-true (get_or entries e.place 0) none z, e.is, l, v.blocks_most))
      (λ z. omega (arith, entry_one e.place e.within (eqb-false (get_or entries e.place 0) none z), e.is, h)))
      (held_from two_held g.logical b t)))
      (λ f. f)

  may_fill_fact : (b : ℕ) → 2 ≤ b → b < g.blocks → permitted (replicate 512 0) (replicate 512 0) (held_bits two_held g.logical) b ≡ true
  unfolding permitted
  may_fill_fact b h l = rw (blank-bit 512 b, unheld b h l)

  free_most : g.blocks ≤ free_blocks two_held g.blocks g.logical + 2
  unfolding free_blocks
  free_most = rw is_mounted (count_others (replicate 512 0) (replicate 512 0) (held_bits two_held g.logical) g.blocks may_fill_fact)

  module _ (fates : List ℕ) where
    sizes_fit : sized_for (setting g whole_mask fates) new_chip ≡ true
    sizes_fit =
        called_sized (setting g whole_mask fates) (uncut_line new_chip 0)
        (record {
          is_valid = v;
          array_long = length-replicate {A = ℕ} (chip_size g) 255;
          register_long = length-replicate {A = ℕ} (page_size g) 255;
          history_long = length-replicate {A = ℕ} g.blocks 0;
          mask_long = length-replicate {A = ℕ} (block_size g) 255;
          ready = omega arith;
          legal = refl;
          uncut = refl;
        })

    in_range : InRange (setting g whole_mask fates) new_chip two_held
    in_range =
        record {
          array_bytes = bytes_replicate (chip_size g);
          mask_bytes = bytes_replicate (block_size g);
          invalid_long = length-replicate {A = ℕ} 512 0;
          invalid_bytes = (bits_none g.blocks).bytes;
          map_long = length-set (replicate 4096 none) 0 1 ∙ length-replicate {A = ℕ} 4096 none;
        }

    pub some_bears : (failed cycles : ℕ) → failed ≤ g.blocks - 3 → Borne g fates failed cycles
    some_bears failed cycles few =
        record {
          mask = whole_mask;
          chip = new_chip;
          allowance = cycles;
          state = two_held;
          logical = 0;
          page = 0;
          bytes = replicate g.main 255;
          bears = record {
            in_range = in_range;
            are_bytes = bytes_replicate g.main;
            is_ready = omega arith;
            line_high = refl;
            accepted = accepted g (sized_for (setting g whole_mask fates) new_chip) two_held 0 0 (length (replicate g.main 255))
                (record { sizes_fit = sizes_fit; is_mounted = is_mounted; logical_below = omega (arith, v.logical_least); page_below = omega (arith, v.pages_least); buffer_long = length-replicate {A = ℕ} g.main 255 });
            over_old = omega (arith, first_entry, v.blocks_least);
            blocks_left = omega (arith, few, free_most, v.blocks_least);
            numbers_left_fact = cases (eqb failed 0) (λ t. rw t (omega (arith, few, v.blocks_most))) (λ f. rw f (omega (arith, few, v.blocks_most)));
            allowed = omega arith;
          };
        }
