-- What single cycles and the parts of an operation leave, where the chip allows them.
use Prim.Native.Nat.{ℕ, zero, suc, ◌+◌, ◌-◌, ◌*◌, ◌/◌, ◌%◌, ◌≤◌, ◌<◌}
use mathlib.Core.Bool.{Bool, true, false, cond, false≢true}
use mathlib.Core.List.{List, [], ◌∷◌, ◌++◌, map}
use mathlib.Core.Path.{◌≡◌, refl, sym, ap, ap₂, ◌∙◌}
use native.Mathlib.Nat.{zero-add, add-zero, sub-zero}
use native.Mathlib.Omega.{arith}
use native.Mathlib.Numerals.{add-one}
use borrow.Author.Tests.{eq-eqb, ne_eqb, le-leb, lt-leb, lt-ltb, le-ltb}
use borrow.Table.Steps.{cases}
use lib.Dec.{eqb}
use lib.ListN.{length, set, get_or, replicate, length-set}
use lib.Seq.{sets}
use Rattle.geometry.specs.declared.Geometry.{Geometry}
use Rattle.geometry.specs.Sizes.{page_size, block_size, row_count, column_bytes, row_bytes}
use Rattle.cells.specs.Cells.{programmed, weakened, raised}
use Rattle.chip_interface.specs.declared.Interface.{Interface}
use Rattle.chip_interface.specs.Interface.{beginning, begun, in_phase, read_mode, status_mode, output_resumed, plain_command, shifted, more_address, full_address, address_fits, latched, addressed, after_reset, started, unstarted, parameters_started, parameter_addressed}
use Rattle.chip_array.specs.Device.{Device, Setting, device, with_interface, lengths_fit, row_at, block_at, page_at, addressed_page, with_page, block_of, with_block, page_loaded, completed, read_started, program_started, erase_started}
use Rattle.chip.specs.Chip.{exec, commanded, is_confirm, next_column, data_taken, data_given, parameter_given, less_busy, finished, status_read, confirmable, confirmed}
use Rattle.chip.specs.Chip.Cycle.{command, address, data_in, data_out, status, parameter_address, parameter_out}
use Rattle.bus.specs.Line.{run}

-- a phase in which address bytes are taken
abbrev pub taking : ℕ → Bool
taking p = cond (eqb p 3) true (cond (eqb p 4) true (eqb p 5))

abbrev pub at_column : ℕ → Interface → Interface
at_column c i =
    record { phase = i.phase; count = i.count; address = i.address; first = i.first; column = c; operation = i.operation; busy = i.busy; failed = i.failed; loaded = i.loaded; fate = i.fate; illegal = i.illegal; protected = i.protected }

abbrev pub busy_with : ℕ → Interface → Interface
busy_with k i =
    record { phase = i.phase; count = i.count; address = i.address; first = i.first; column = i.column; operation = i.operation; busy = k; failed = i.failed; loaded = i.loaded; fate = i.fate; illegal = i.illegal; protected = i.protected }

addressed-latched : (g : Geometry) (b : ℕ) (i : Interface) → taking i.phase ≡ true → addressed g b i ≡ latched g b i
unfolding addressed
addressed-latched g b i h =
    cases (eqb i.phase 3) (λ e. rw e)
    (λ e. cases (eqb i.phase 4) (λ f. rw (e, f))
    (λ f. cases (eqb i.phase 5) (λ k. rw (e, f, k)) (λ k. absurd (false≢true (sym (rw (e, f, k)) ∙ h)))))

-- the address register after two column bytes, and after three row bytes behind them
column_number : (c : ℕ) → c < 65536 → shifted (c / 256 % 256) (shifted (c % 256) 0) ≡ c * 16777216
column_number c h = omega arith

row_number : (a r : ℕ) → r < 16777216 → shifted (r / 256 / 256 % 256) (shifted (r / 256 % 256) (shifted (r % 256) (a * 16777216))) ≡ a + r * 65536
row_number a r h = omega arith

pub address_number : (c r : ℕ) → c < 65536 → r < 16777216 → shifted (r / 256 / 256 % 256) (shifted (r / 256 % 256) (shifted (r % 256) (shifted (c / 256 % 256) (shifted (c % 256) 0)))) ≡ c + r * 65536
address_number c r hc hr = rw (column_number c hc) (row_number c r hr)

module _ (s : Setting) (d : Device) where
  -- 80h and 60h
  pub begin_program : d.interface.phase ≤ 2 → exec s d (command 128) ≡ with_interface (beginning 4 0 d.interface) d
  unfolding exec commanded is_confirm plain_command begun
  begin_program h = rw (le-leb _ _ h)

  pub begin_erase : d.interface.phase ≤ 2 → exec s d (command 96) ≡ with_interface (beginning 5 2 d.interface) d
  unfolding exec commanded is_confirm plain_command begun
  begin_erase h = rw (le-leb _ _ h)

  -- 00h where no page is loaded, and where one is
  pub begin_read : d.interface.phase ≤ 2 → eqb d.interface.loaded 1 ≡ false → exec s d (command 0) ≡ with_interface (beginning 3 0 d.interface) d
  unfolding exec commanded is_confirm plain_command read_mode
  begin_read h e = rw (le-leb _ _ h, e)

  pub resume_output : d.interface.phase ≤ 2 → eqb d.interface.loaded 1 ≡ true → exec s d (command 0) ≡ with_interface (output_resumed d.interface) d
  unfolding exec commanded is_confirm plain_command read_mode
  resume_output h e = rw (le-leb _ _ h, e)

  pub one_address : (b : ℕ) (i : Interface) → taking i.phase ≡ true → i.count < 4 → exec s (with_interface i d) (address b) ≡ with_interface (more_address (shifted b i.address) i) d
  unfolding exec latched
  one_address b i t h = rw (addressed-latched s.geometry b i t, lt-leb 5 i.count (omega arith), lt-ltb i.count 4 h)

  pub last_address : (b : ℕ) (i : Interface) → taking i.phase ≡ true → i.count ≡ 4 → address_fits s.geometry (shifted b i.address) ≡ true → exec s (with_interface i d) (address b) ≡ with_interface (full_address (shifted b i.address) i) d
  unfolding exec latched
  last_address b i t h f = rw (addressed-latched s.geometry b i t, lt-leb 5 i.count (omega arith), le-ltb i.count 4 (omega arith), f)

  -- two column bytes and three row bytes
  pub five_bytes : (p c r : ℕ) (i : Interface) → taking p ≡ true → c < 65536 → r < 16777216 → address_fits s.geometry (c + r * 65536) ≡ true → run s (with_interface (beginning p 0 i) d) (map address (column_bytes c ++ row_bytes r)) ≡ with_interface (full_address (c + r * 65536) (beginning p 0 i)) d
  unfolding run
  five_bytes p c r i t hc hr f =
      let i₀ = beginning p 0 i in
      let i₁ = more_address (shifted (c % 256) 0) i₀ in
      let i₂ = more_address (shifted (c / 256 % 256) i₁.address) i₁ in
      let i₃ = more_address (shifted (r % 256) i₂.address) i₂ in
      let i₄ = more_address (shifted (r / 256 % 256) i₃.address) i₃ in
      let n = address_number c r hc hr in
      rw (
        one_address (c % 256) i₀ t (omega arith),
        one_address (c / 256 % 256) i₁ t (omega arith),
        one_address (r % 256) i₂ t (omega arith),
        one_address (r / 256 % 256) i₃ t (omega arith),
        last_address (r / 256 / 256 % 256) i₄ t refl (rw n f),
      )
      (ap (λ (a : ℕ). with_interface (full_address a i₀) d) n)

  pub three_bytes : (r : ℕ) (i : Interface) → r < 16777216 → address_fits s.geometry (r * 65536) ≡ true → run s (with_interface (beginning 5 2 i) d) (map address (row_bytes r)) ≡ with_interface (full_address (r * 65536) (beginning 5 2 i)) d
  unfolding run
  three_bytes r i hr f =
      let i₀ = beginning 5 2 i in
      let i₁ = more_address (shifted (r % 256) 0) i₀ in
      let i₂ = more_address (shifted (r / 256 % 256) i₁.address) i₁ in
      let n = row_number 0 r hr ∙ zero-add (r * 65536) in
      rw (
        one_address (r % 256) i₀ refl (omega arith),
        one_address (r / 256 % 256) i₁ refl (omega arith),
        last_address (r / 256 / 256 % 256) i₂ refl refl (rw n f),
      )
      (ap (λ (a : ℕ). with_interface (full_address a i₀) d) n)

module _ (s : Setting) where
  one_in : (x : ℕ) (i : Interface) (a r h : List ℕ) → i.phase ≡ 6 → i.column < length r → exec s (device i a r h) (data_in x) ≡ device (next_column i) a (set r i.column x) h
  unfolding exec data_taken
  one_in x i a r h p q = rw (eq-eqb i.phase 6 p, lt-ltb i.column (length r) q)

  pub one_out : (i : Interface) (a r h : List ℕ) → i.phase ≡ 2 → eqb i.operation 4 ≡ false → i.column < length r → exec s (device i a r h) data_out ≡ device (next_column i) a r h
  unfolding exec data_given
  one_out i a r h p o q = rw (eq-eqb i.phase 2 p, o, lt-ltb i.column (length r) q)

  pub one_parameter : (page : List ℕ) (i : Interface) (a r h : List ℕ) → i.phase ≡ 2 → eqb i.operation 4 ≡ true → i.column < length page → exec s (device i a r h) (parameter_out page) ≡ device (next_column i) a r h
  unfolding exec parameter_given
  one_parameter page i a r h p o q = rw (eq-eqb i.phase 2 p, o, lt-ltb i.column (length page) q)

  pub one_busy : (i : Interface) (a r h : List ℕ) → i.phase ≡ 8 → 0 < i.busy → exec s (device i a r h) status ≡ device (less_busy i) a r h
  unfolding exec status_read
  one_busy i a r h p q =
      rw (ne_eqb i.phase 1 (λ e. omega (arith, e)), eq-eqb i.phase 8 p, ne_eqb i.busy 0 (λ e. omega (arith, e)))

  -- data in, from the present column on
  pub data_taken_fact : (xs : List ℕ) (i : Interface) (a r h : List ℕ) → i.phase ≡ 6 → i.column + length xs ≤ length r → run s (device i a r h) (map data_in xs) ≡ device (at_column (i.column + length xs) i) a (sets r i.column xs) h
  unfolding run
  data_taken_fact [] i a r h p q = ap (λ (k : ℕ). device (at_column k i) a r h) (sym (add-zero i.column))
  data_taken_fact (x ∷ xs) i a r h p q =
      ap (λ (y : Device). run s y (map data_in xs)) (one_in x i a r h p (omega arith))
      ∙ (data_taken_fact xs (next_column i) a (set r i.column x) h p (rw length-set (omega arith))
      ∙ ap₂ (λ (k n : ℕ). device (at_column k i) a (sets (set r i.column x) n xs) h) (omega arith) (add-one i.column))

  -- data out
  pub data_given_fact : (n : ℕ) (i : Interface) (a r h : List ℕ) → i.phase ≡ 2 → eqb i.operation 4 ≡ false → i.column + n ≤ length r → run s (device i a r h) (replicate n data_out) ≡ device (at_column (i.column + n) i) a r h
  unfolding run
  data_given_fact zero i a r h p o q = ap (λ (k : ℕ). device (at_column k i) a r h) (sym (add-zero i.column))
  data_given_fact (suc n) i a r h p o q =
      ap (λ (x : Device). run s x (replicate n data_out)) (one_out i a r h p o (omega arith))
      ∙ (data_given_fact n (next_column i) a r h p o (omega arith) ∙ ap (λ (k : ℕ). device (at_column k i) a r h) (omega arith))

  pub parameters_given : (page : List ℕ) (n : ℕ) (i : Interface) (a r h : List ℕ) → i.phase ≡ 2 → eqb i.operation 4 ≡ true → i.column + n ≤ length page → run s (device i a r h) (replicate n (parameter_out page)) ≡ device (at_column (i.column + n) i) a r h
  unfolding run
  parameters_given page zero i a r h p o q = ap (λ (k : ℕ). device (at_column k i) a r h) (sym (add-zero i.column))
  parameters_given page (suc n) i a r h p o q =
      ap (λ (x : Device). run s x (replicate n (parameter_out page))) (one_parameter page i a r h p o (omega arith))
      ∙ (parameters_given page n (next_column i) a r h p o (omega arith) ∙ ap (λ (k : ℕ). device (at_column k i) a r h) (omega arith))

  -- status reads that are answered busy
  pub busy_reads_fact : (n : ℕ) (i : Interface) (a r h : List ℕ) → i.phase ≡ 8 → n ≤ i.busy → run s (device i a r h) (replicate n status) ≡ device (busy_with (i.busy - n) i) a r h
  unfolding run
  busy_reads_fact zero i a r h p q = ap (λ (k : ℕ). device (busy_with k i) a r h) (sym (sub-zero i.busy))
  busy_reads_fact (suc n) i a r h p q =
      ap (λ (x : Device). run s x (replicate n status)) (one_busy i a r h p (omega arith))
      ∙ (busy_reads_fact n (less_busy i) a r h p (omega arith) ∙ ap (λ (k : ℕ). device (busy_with k i) a r h) (omega arith))

  -- the status read that reports ready
  pub ready_read : (d : Device) → d.interface.phase ≡ 8 → d.interface.busy ≡ 0 → eqb d.interface.operation 4 ≡ false → lengths_fit s.geometry d ≡ true → row_at d.interface < row_count s.geometry → exec s d status ≡ completed s.geometry d
  unfolding exec status_read finished
  ready_read d p q o f r =
      rw (
        ne_eqb d.interface.phase 1 (λ e. omega (arith, e)),
        eq-eqb d.interface.phase 8 p,
        eq-eqb d.interface.busy 0 q,
        o,
        f,
        lt-ltb _ _ r,
      )

  -- the one that reports the parameter page ready, with any geometry and lengths
  pub parameters_ready : (d : Device) → d.interface.phase ≡ 8 → d.interface.busy ≡ 0 → eqb d.interface.operation 4 ≡ true → exec s d status ≡ with_interface (page_loaded d.interface) d
  unfolding exec status_read finished
  parameters_ready d p q o =
      rw (ne_eqb d.interface.phase 1 (λ e. omega (arith, e)), eq-eqb d.interface.phase 8 p, eq-eqb d.interface.busy 0 q, o)

  -- ECh and its address byte
  pub begin_parameters : (d : Device) → d.interface.phase ≤ 2 → exec s d (command 236) ≡ with_interface (beginning 9 0 d.interface) d
  unfolding exec commanded is_confirm plain_command begun
  begin_parameters d h = rw (le-leb _ _ h)

  pub start_parameters : (d : Device) → d.interface.phase ≡ 9 → exec s d (parameter_address 0) ≡ with_interface (parameters_started s.fates d.interface) d
  unfolding exec parameter_addressed
  start_parameters d h = rw (eq-eqb d.interface.phase 9 h)

  -- FFh, in every phase
  pub reset_command : (d : Device) → exec s d (command 255) ≡ with_interface (after_reset d.interface) d
  unfolding exec commanded is_confirm plain_command
  reset_command d = refl

  -- 70h when ready, and after a confirm cycle
  pub status_ready : (d : Device) → d.interface.phase ≤ 2 → exec s d (command 112) ≡ with_interface (in_phase 1 d.interface) d
  unfolding exec commanded is_confirm plain_command status_mode
  status_ready d h = rw (le-leb _ _ h)

  pub status_busy : (d : Device) → d.interface.phase ≡ 7 → exec s d (command 112) ≡ with_interface (in_phase 8 d.interface) d
  unfolding exec commanded is_confirm plain_command status_mode
  status_busy d h = rw (lt-leb d.interface.phase 2 (omega arith), eq-eqb d.interface.phase 7 h)

  -- the lengths and the row that every confirm cycle wants
  confirm_allowed : (d : Device) → lengths_fit s.geometry d ≡ true → length s.mask ≡ block_size s.geometry → row_at d.interface < row_count s.geometry → confirmable s d ≡ true
  unfolding confirmable
  confirm_allowed d f m r = rw (f, eq-eqb _ _ m, lt-ltb _ _ r)

  pub confirm_read : (d : Device) → lengths_fit s.geometry d ≡ true → length s.mask ≡ block_size s.geometry → row_at d.interface < row_count s.geometry → d.interface.phase ≡ 3 → d.interface.count ≡ 5 → exec s d (command 48) ≡ device (started 1 s.fates d.interface) d.array (addressed_page s.geometry d) d.history
  unfolding exec commanded is_confirm confirmed read_started
  confirm_read d f m r p n = rw (confirm_allowed d f m r, eq-eqb _ _ p, eq-eqb _ _ n)

  pub confirm_program : (d : Device) → lengths_fit s.geometry d ≡ true → length s.mask ≡ block_size s.geometry → row_at d.interface < row_count s.geometry → d.interface.phase ≡ 6 → d.interface.first ≡ 0 → d.interface.column ≡ page_size s.geometry → get_or d.history (block_at s.geometry d.interface) 0 ≤ page_at s.geometry d.interface → d.interface.protected ≡ 0 → exec s d (command 16) ≡ device (started 2 s.fates d.interface) (with_page s.geometry d (programmed (addressed_page s.geometry d) (weakened d.register s.mask))) d.register (set d.history (block_at s.geometry d.interface) (page_at s.geometry d.interface + 1))
  unfolding exec commanded is_confirm confirmed program_started
  confirm_program d f m r p n c h high =
      rw (confirm_allowed d f m r, eq-eqb _ _ p, eq-eqb _ _ n, eq-eqb _ _ c, le-leb _ _ h, eq-eqb _ _ high)

  pub confirm_erase : (d : Device) → lengths_fit s.geometry d ≡ true → length s.mask ≡ block_size s.geometry → row_at d.interface < row_count s.geometry → d.interface.phase ≡ 5 → d.interface.count ≡ 5 → d.interface.protected ≡ 0 → exec s d (command 208) ≡ device (started 3 s.fates d.interface) (with_block s.geometry d (raised (block_of s.geometry d) s.mask)) d.register (set d.history (block_at s.geometry d.interface) 255)
  unfolding exec commanded is_confirm confirmed erase_started
  confirm_erase d f m r p n high = rw (confirm_allowed d f m r, eq-eqb _ _ p, eq-eqb _ _ n, eq-eqb _ _ high)

  -- with the write-protect line low nothing starts
  pub confirm_program_low : (d : Device) → lengths_fit s.geometry d ≡ true → length s.mask ≡ block_size s.geometry → row_at d.interface < row_count s.geometry → d.interface.phase ≡ 6 → d.interface.first ≡ 0 → d.interface.column ≡ page_size s.geometry → get_or d.history (block_at s.geometry d.interface) 0 ≤ page_at s.geometry d.interface → (d.interface.protected ≡ 0 → ⊥) → exec s d (command 16) ≡ with_interface (unstarted 2 d.interface) d
  unfolding exec commanded is_confirm confirmed program_started
  confirm_program_low d f m r p n c h low =
      rw (confirm_allowed d f m r, eq-eqb _ _ p, eq-eqb _ _ n, eq-eqb _ _ c, le-leb _ _ h, ne_eqb _ _ low)

  pub confirm_erase_low : (d : Device) → lengths_fit s.geometry d ≡ true → length s.mask ≡ block_size s.geometry → row_at d.interface < row_count s.geometry → d.interface.phase ≡ 5 → d.interface.count ≡ 5 → (d.interface.protected ≡ 0 → ⊥) → exec s d (command 208) ≡ with_interface (unstarted 3 d.interface) d
  unfolding exec commanded is_confirm confirmed erase_started
  confirm_erase_low d f m r p n low = rw (confirm_allowed d f m r, eq-eqb _ _ p, eq-eqb _ _ n, ne_eqb _ _ low)
