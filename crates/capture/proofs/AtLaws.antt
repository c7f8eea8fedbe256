-- The i-th cycle of a list that is put together of others. Assumes nothing.
use Prim.Native.Nat.{ℕ, zero, suc, ◌+◌, ◌-◌, ◌<◌, ◌≤◌}
use mathlib.Core.Bool.{Bool, true, false}
use mathlib.Core.List.{List, [], ◌∷◌, ◌++◌, map, append_assoc}
use mathlib.Core.Path.{◌≡◌, refl, ◌∙◌}
use native.Mathlib.Omega.{arith}
use borrow.Author.Tests.{ltb-true, ltb-false, lt-ltb}
use lib.Dec.{ltb}
use lib.ListN.{length, get_or, replicate, length-replicate, length-map}
use Rattle.std.proofs.Common.{Some, None}
use Rattle.std.specs.Bool.{then_some}
use Rattle.chip.specs.Chip.{Cycle}
use Rattle.chip.specs.Chip.Cycle.{command, data_in, data_out, status}
use Rattle.chip_interface.specs.Interface.{read_code, program_code, erase_code, read_confirm, program_confirm, erase_confirm}
use Rattle.bus_sequences.specs.Cycles.{address_cycles, row_cycles, read_address, program_data, erase_address, confirm_cycles}
use Rattle.capture.specs.declared.Captured.TheVariants.{DataIn, DataOut, Status}
use Rattle.capture.specs.Capture.{seen, cycle_at, polled_cycles, output_cycles, confirmed_capture, fetch_capture, read_capture, program_capture, erase_capture}

-- past the end
pub at_past : (cs : List Cycle) (i : ℕ) → length cs ≤ i → cycle_at cs i ≡ None
unfolding cycle_at
at_past [] i h = refl
at_past (c ∷ cs) zero h = absurd (omega arith)
at_past (c ∷ cs) (suc i) h = at_past cs i (omega arith)

-- past the first
pub at_rest : (c : Cycle) (cs : List Cycle) (i : ℕ) → 0 < i → cycle_at (c ∷ cs) i ≡ cycle_at cs (i - 1)
unfolding cycle_at
at_rest c cs zero h = absurd (omega arith)
at_rest c cs (suc i) h =
    let e : suc i - 1 ≡ i = omega arith in
    rw e

-- in the first list, and past it
pub at_front : (cs ds : List Cycle) (i : ℕ) → i < length cs → cycle_at (cs ++ ds) i ≡ cycle_at cs i
unfolding cycle_at
at_front [] ds i h = absurd (omega arith)
at_front (c ∷ cs) ds zero h = refl
at_front (c ∷ cs) ds (suc i) h = at_front cs ds i (omega arith)

pub at_back : (cs ds : List Cycle) (i : ℕ) → length cs ≤ i → cycle_at (cs ++ ds) i ≡ cycle_at ds (i - length cs)
unfolding cycle_at
at_back [] ds i h =
    let e : i - 0 ≡ i = omega arith in
    rw e
at_back (c ∷ cs) ds zero h = absurd (omega arith)
at_back (c ∷ cs) ds (suc i) h =
    let e : suc i - suc (length cs) ≡ i - length cs = omega arith in
    rw e (at_back cs ds i (omega arith))

-- among equal cycles, and past them
pub at_repeat : (c : Cycle) (n i : ℕ) → i < n → cycle_at (replicate n c) i ≡ Some (seen c)
unfolding cycle_at
at_repeat c zero i h = absurd (omega arith)
at_repeat c (suc n) zero h = refl
at_repeat c (suc n) (suc i) h = at_repeat c n i (omega arith)

pub at_repeat_past : (c : Cycle) (n i : ℕ) → n ≤ i → cycle_at (replicate n c) i ≡ None
at_repeat_past c n i h = at_past (replicate n c) i (rw length-replicate h)

at_counted_by : (b : Bool) (c : Cycle) (n i : ℕ) → ltb i n ≡ b → cycle_at (replicate n c) i ≡ then_some b (seen c)
at_counted_by true c n i e = at_repeat c n i (ltb-true i n e)
at_counted_by false c n i e = at_repeat_past c n i (ltb-false i n e)

pub at_counted : (c : Cycle) (n i : ℕ) → cycle_at (replicate n c) i ≡ then_some (ltb i n) (seen c)
at_counted c n i = at_counted_by (ltb i n) c n i refl

-- among data input cycles
pub at_data : (bytes : List ℕ) (i : ℕ) → i < length bytes → cycle_at (map data_in bytes) i ≡ Some (DataIn (get_or bytes i 0))
unfolding cycle_at
at_data [] i h = absurd (omega arith)
at_data (b ∷ bytes) zero h = refl
at_data (b ∷ bytes) (suc i) h = at_data bytes i (omega arith)

-- among the status reads, and past them
pub at_status : (code polls i : ℕ) → 2 ≤ i → cycle_at (polled_cycles code polls) i ≡ then_some (ltb (i - 2) polls) Status
at_status code polls i h = at_back (confirm_cycles code) (replicate polls status) i h ∙ at_counted status polls (i - 2)

-- among the bytes out, and past them
pub at_output : (moved i : ℕ) → 0 < i → cycle_at (output_cycles moved) i ≡ then_some (ltb (i - 1) moved) DataOut
at_output moved i h = at_rest (command read_code) (replicate moved data_out) i h ∙ at_counted data_out moved (i - 1)

-- the first cycles of an operation, and what follows them
module _ (first : List Cycle) (code polls i : ℕ) where
  pub at_first : i < length first → cycle_at (confirmed_capture first code polls) i ≡ cycle_at first i
  at_first h = rw append_assoc (at_front first (polled_cycles code polls) i h)

  pub at_polled : length first ≤ i → cycle_at (confirmed_capture first code polls) i ≡ cycle_at (polled_cycles code polls) (i - length first)
  at_polled h = rw append_assoc (at_back first (polled_cycles code polls) i h)

module _ (row polls i : ℕ) where
  pub erase_row : 0 < i → i < 4 → cycle_at (erase_capture row polls) i ≡ cycle_at (row_cycles row) (i - 1)
  erase_row g h =
      at_first (erase_address row) erase_confirm polls i h ∙ at_rest (command erase_code) (row_cycles row) i g

  pub erase_polled : 4 ≤ i → cycle_at (erase_capture row polls) i ≡ cycle_at (polled_cycles erase_confirm polls) (i - 4)
  erase_polled h = at_polled (erase_address row) erase_confirm polls i h

module _ (row : ℕ) (bytes : List ℕ) (polls i : ℕ) where
  length_first : length (program_data row bytes) ≡ 6 + length bytes
  length_first = omega (arith, length-map bytes data_in)

  pub program_address : 0 < i → i < 6 → cycle_at (program_capture row bytes polls) i ≡ cycle_at (address_cycles 0 row) (i - 1)
  program_address g h =
      at_first (program_data row bytes) program_confirm polls i (omega (arith, length_first))
      ∙ at_rest (command program_code) (address_cycles 0 row ++ map data_in bytes) i g
      ∙ at_front (address_cycles 0 row) (map data_in bytes) (i - 1) (omega arith)

  pub program_byte : 6 ≤ i → i - 6 < length bytes → cycle_at (program_capture row bytes polls) i ≡ Some (DataIn (get_or bytes (i - 6) 0))
  program_byte g h =
      at_first (program_data row bytes) program_confirm polls i (omega (arith, length_first))
      ∙ at_back (command program_code ∷ address_cycles 0 row) (map data_in bytes) i g
      ∙ at_data bytes (i - 6) h

  pub program_polled : 6 ≤ i → length bytes ≤ i - 6 → cycle_at (program_capture row bytes polls) i ≡ cycle_at (polled_cycles program_confirm polls) (i - 6 - length bytes)
  program_polled g h =
      let e : i - length (program_data row bytes) ≡ i - 6 - length bytes = omega (arith, length_first) in
      rw (← e) (at_polled (program_data row bytes) program_confirm polls i (omega (arith, length_first)))

module _ (row column polls i : ℕ) where
  length_fetch : length (fetch_capture row column polls) ≡ 8 + polls
  length_fetch = omega (arith, length-replicate polls status)

  pub fetch_address : 0 < i → i < 6 → cycle_at (fetch_capture row column polls) i ≡ cycle_at (address_cycles column row) (i - 1)
  fetch_address g h =
      at_first (read_address row column) read_confirm polls i h ∙ at_rest (command read_code) (address_cycles column row) i g

  pub fetch_polled : 6 ≤ i → cycle_at (fetch_capture row column polls) i ≡ cycle_at (polled_cycles read_confirm polls) (i - 6)
  fetch_polled h = at_polled (read_address row column) read_confirm polls i h

  module _ (moved : ℕ) where
    pub read_fetch : i < 8 + polls → cycle_at (read_capture row column moved polls) i ≡ cycle_at (fetch_capture row column polls) i
    read_fetch h = at_front (fetch_capture row column polls) (output_cycles moved) i (omega (arith, length_fetch))

    pub read_status : 8 ≤ i → i - 8 < polls → cycle_at (read_capture row column moved polls) i ≡ Some Status
    read_status g h =
        let e : i - 6 - 2 ≡ i - 8 = omega arith in
        read_fetch (omega arith) ∙ fetch_polled (omega arith) ∙ at_status read_confirm polls (i - 6) (omega arith)
        ∙ rw (e, lt-ltb (i - 8) polls h) refl

    pub read_output : 8 ≤ i → polls ≤ i - 8 → cycle_at (read_capture row column moved polls) i ≡ cycle_at (output_cycles moved) (i - 8 - polls)
    read_output g h =
        let e : i - length (fetch_capture row column polls) ≡ i - 8 - polls = omega (arith, length_fetch) in
        rw (← e) (at_back (fetch_capture row column polls) (output_cycles moved) i (omega (arith, length_fetch)))
