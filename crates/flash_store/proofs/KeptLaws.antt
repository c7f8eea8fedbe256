-- What a refused call leaves as it was, and that the next call takes the chip as this one left it. Assumes nothing.
use Prim.Native.Nat.{ℕ, ◌+◌, ◌≤◌}
use mathlib.Core.Bool.{Bool, true, false}
use mathlib.Core.List.{List, [], ◌∷◌, ◌++◌, append_assoc}
use mathlib.Core.Path.{◌≡◌, refl, sym, ap, ap₂, ◌∙◌}
use native.Mathlib.Omega.{arith}
use borrow.Author.Tests.{eq-eqb, ne_eqb}
use borrow.Table.Steps.{cases}
use lib.Dec.{eqb}
use lib.ListN.{length, take, drop, take-append-drop, length-drop}
use lib.Seq.{drop-drop, take_all, length-take-le}
use Rattle.cells.specs.Bytes.{Bytes}
use Rattle.cells.specs.Part.{part}
use Rattle.cells.proofs.PartLaws.{length_part, bytes_part}
use Rattle.pages.specs.Layout.{bytes_of, number_of}
use Rattle.chip_interface.specs.declared.Interface.{Interface}
use Rattle.chip_array.specs.Device.{Setting, device}
use Rattle.c_state.specs.StateBytes.{state_length, bytes_state}
use Rattle.c_state.proofs.RoundLaws.{bytes_of-number_of, store_loaded}
use Rattle.c_open.specs.OpenBytes.{open_length, write_bytes, open_bytes, bytes_write, bytes_open}
use Rattle.request.specs.Call.{result_of, sized_for}
use Rattle.format.specs.Format.{format_request}
use Rattle.scan_summary.specs.declared.Depth.{Depth}
use Rattle.mount.specs.Mount.{mount_request}
use Rattle.request_refusals.specs.Refusals.{refusal, refusal_of}
use Rattle.request_refusals.proofs.RefusalLaws.{by_refusal}
use Rattle.read.specs.Reading.{read_request}
use Rattle.read.proofs.ReadingLaws.{read_keeps}
use Rattle.write_changes.specs.Changes.{erase_refusal, write_request, erase_request}
use Rattle.identify.specs.Identify.{identify_request}
use Rattle.open_write.specs.Open.{is_opened}
use Rattle.open_write.specs.Requests.{OpenResult, open_result, stops, open_refusal, open_read_request, open_write_request, open_erase_request, open_format_request, open_mount_request, open_identify_request, open_request, advance_request}
use Rattle.journal.specs.declared.Sale.{Sale}
use Rattle.open_journal.specs.Requests.{open_append_request, open_takings_request}
use Rattle.c_buffers.specs.Buffers.{Lent, lent, state_of, chip_of, rightly, handed, put_back, answered}
use Rattle.c_buffers.proofs.BufferLaws.{right-long}
use Rattle.c_buffers.proofs.InterfaceLaws.{interface_read, interface_kept}
use Rattle.flash_store.specs.Identify.{identify_handed, identifying_lent}
use Rattle.flash_store.specs.Ledger.{told_handed, told_lent, appending_lent, takings_lent}
use Rattle.flash_store.specs.Library.{formatting_lent, mounting_lent, read_handed, reading_lent, writing_lent, erasing_lent}
use Rattle.flash_store.specs.Opened.{opening_lent, advance_handed, advancing_lent}

-- bytes of a state that are loaded and stored are the same bytes
module _ (xs : List ℕ) (long : length xs ≡ open_length) (bytes : Bytes xs) where
  word : (k : ℕ) → k + 8 ≤ open_length → bytes_of 8 (number_of (part k 8 xs)) ++ drop (k + 8) xs ≡ drop k xs
  word k room =
      let eight : length (part k 8 xs) ≡ 8 = length_part k 8 xs (omega (arith, room, long)) in
      ap₂ ◌++◌ (ap (λ (n : ℕ). bytes_of n (number_of (part k 8 xs))) (sym eight) ∙ bytes_of-number_of (part k 8 xs) (bytes_part k 8 xs bytes)) (sym (drop-drop 8 k xs))
      ∙ take-append-drop 8 (drop k xs)

  words : write_bytes (bytes_write xs) ++ drop 9328 xs ≡ drop 9248 xs
  unfolding write_bytes bytes_write
  words =
      let nested : write_bytes (bytes_write xs) ++ drop 9328 xs ≡ bytes_of 8 (number_of (part 9248 8 xs)) ++ (bytes_of 8 (number_of (part 9256 8 xs)) ++ (bytes_of 8 (number_of (part 9264 8 xs)) ++ (bytes_of 8 (number_of (part 9272 8 xs)) ++ (bytes_of 8 (number_of (part 9280 8 xs)) ++ (bytes_of 8 (number_of (part 9288 8 xs)) ++ (bytes_of 8 (number_of (part 9296 8 xs)) ++ (bytes_of 8 (number_of (part 9304 8 xs)) ++ (bytes_of 8 (number_of (part 9312 8 xs)) ++ (bytes_of 8 (number_of (part 9320 8 xs)) ++ drop 9328 xs))))))))) = simp append_assoc in
      nested
      ∙ ap (λ (r : List ℕ). bytes_of 8 (number_of (part 9248 8 xs)) ++ (bytes_of 8 (number_of (part 9256 8 xs)) ++ (bytes_of 8 (number_of (part 9264 8 xs)) ++ (bytes_of 8 (number_of (part 9272 8 xs)) ++ (bytes_of 8 (number_of (part 9280 8 xs)) ++ (bytes_of 8 (number_of (part 9288 8 xs)) ++ (bytes_of 8 (number_of (part 9296 8 xs)) ++ (bytes_of 8 (number_of (part 9304 8 xs)) ++ (bytes_of 8 (number_of (part 9312 8 xs)) ++ r))))))))) (word 9320 (omega arith))
      ∙ ap (λ (r : List ℕ). bytes_of 8 (number_of (part 9248 8 xs)) ++ (bytes_of 8 (number_of (part 9256 8 xs)) ++ (bytes_of 8 (number_of (part 9264 8 xs)) ++ (bytes_of 8 (number_of (part 9272 8 xs)) ++ (bytes_of 8 (number_of (part 9280 8 xs)) ++ (bytes_of 8 (number_of (part 9288 8 xs)) ++ (bytes_of 8 (number_of (part 9296 8 xs)) ++ (bytes_of 8 (number_of (part 9304 8 xs)) ++ r)))))))) (word 9312 (omega arith))
      ∙ ap (λ (r : List ℕ). bytes_of 8 (number_of (part 9248 8 xs)) ++ (bytes_of 8 (number_of (part 9256 8 xs)) ++ (bytes_of 8 (number_of (part 9264 8 xs)) ++ (bytes_of 8 (number_of (part 9272 8 xs)) ++ (bytes_of 8 (number_of (part 9280 8 xs)) ++ (bytes_of 8 (number_of (part 9288 8 xs)) ++ (bytes_of 8 (number_of (part 9296 8 xs)) ++ r))))))) (word 9304 (omega arith))
      ∙ ap (λ (r : List ℕ). bytes_of 8 (number_of (part 9248 8 xs)) ++ (bytes_of 8 (number_of (part 9256 8 xs)) ++ (bytes_of 8 (number_of (part 9264 8 xs)) ++ (bytes_of 8 (number_of (part 9272 8 xs)) ++ (bytes_of 8 (number_of (part 9280 8 xs)) ++ (bytes_of 8 (number_of (part 9288 8 xs)) ++ r)))))) (word 9296 (omega arith))
      ∙ ap (λ (r : List ℕ). bytes_of 8 (number_of (part 9248 8 xs)) ++ (bytes_of 8 (number_of (part 9256 8 xs)) ++ (bytes_of 8 (number_of (part 9264 8 xs)) ++ (bytes_of 8 (number_of (part 9272 8 xs)) ++ (bytes_of 8 (number_of (part 9280 8 xs)) ++ r))))) (word 9288 (omega arith))
      ∙ ap (λ (r : List ℕ). bytes_of 8 (number_of (part 9248 8 xs)) ++ (bytes_of 8 (number_of (part 9256 8 xs)) ++ (bytes_of 8 (number_of (part 9264 8 xs)) ++ (bytes_of 8 (number_of (part 9272 8 xs)) ++ r)))) (word 9280 (omega arith))
      ∙ ap (λ (r : List ℕ). bytes_of 8 (number_of (part 9248 8 xs)) ++ (bytes_of 8 (number_of (part 9256 8 xs)) ++ (bytes_of 8 (number_of (part 9264 8 xs)) ++ r))) (word 9272 (omega arith))
      ∙ ap (λ (r : List ℕ). bytes_of 8 (number_of (part 9248 8 xs)) ++ (bytes_of 8 (number_of (part 9256 8 xs)) ++ r)) (word 9264 (omega arith))
      ∙ ap (λ (r : List ℕ). bytes_of 8 (number_of (part 9248 8 xs)) ++ r) (word 9256 (omega arith))
      ∙ word 9248 (omega arith)

  -- the page and the kinds are what follows the words
  last : part 9328 4096 xs ++ part 13424 4096 xs ≡ drop 9328 xs
  last =
      ap (λ (r : List ℕ). part 9328 4096 xs ++ r) (take_all 4096 (drop 13424 xs) (omega (arith, length-drop 13424 xs, long)) ∙ sym (drop-drop 4096 9328 xs))
      ∙ take-append-drop 4096 (drop 9328 xs)

  pub stored_again : open_bytes (bytes_open xs) ≡ xs
  unfolding open_bytes bytes_state
  stored_again =
      let base : length (take state_length xs) ≡ state_length = length-take-le state_length xs (omega (arith, long)) in
      ap₂ ◌++◌ (store_loaded (take state_length xs) (part 13424 4096 xs) base (bytes_part 0 state_length xs bytes)) (ap (λ (r : List ℕ). write_bytes (bytes_write xs) ++ r) last ∙ words) ∙ take-append-drop state_length xs

-- what was lent, with no cycle sent
abbrev pub none_sent : Lent → Lent
none_sent l = lent l.state l.interface l.array l.register l.history (0 ∷ [])

-- the refusals of a request for one page leave what is open
refusal_stays : (s : Setting) (l : Lent) (logical page size : ℕ) → stops (refusal s.geometry (sized_for s (chip_of l)) (state_of l).state logical page size) ≡ false
unfolding stops
refusal_stays s l logical page size =
    by_refusal s.geometry (sized_for s (chip_of l)) (state_of l).state logical page size (λ (k : ℕ). stops k ≡ false) (λ f. refl) (λ t m. refl) (λ t m h. refl) (λ t m h p. refl) (λ t m h p x. refl) (λ a. refl)

module _ (s : Setting) (l : Lent) (n : ℕ) (right : rightly l ≡ true) (bytes : Bytes l.state) where
  -- the state and the chip handed back as they were handed in
  pub unchanged : (answer : ℕ) → answered l (open_result answer (state_of l) (chip_of l) 0) ≡ handed answer (none_sent l)
  unfolding answered
  unchanged answer =
      let long = right-long (length l.state) (length l.interface) (length l.sent) right in
      rw (right, stored_again l.state long.state_long bytes, interface_kept l.interface long.interface_long)

  abbrev held : Bool → ℕ
  held barred = open_refusal s.geometry (sized_for s (chip_of l)) (state_of l) barred

  -- 1 geometry; 15 for a formatting
  pub format_refused : sized_for s (chip_of l) ≡ false → formatting_lent s l n ≡ handed 1 (none_sent l)
  unfolding result_of formatting_lent open_format_request format_request open_refusal
  format_refused f = rw f (unchanged 1)

  pub format_barred : held (is_opened (state_of l)) ≡ 15 → formatting_lent s l n ≡ handed 15 (none_sent l)
  unfolding result_of formatting_lent open_format_request
  format_barred e = rw (eq-eqb (held (is_opened (state_of l))) 15 e) (unchanged 15)

  pub mount-refused : (depth : Depth) → sized_for s (chip_of l) ≡ false → mounting_lent depth s l n ≡ handed 1 (none_sent l)
  unfolding result_of mounting_lent open_mount_request mount_request
  mount-refused depth f = rw f (unchanged 1)

  -- 1 geometry, 7 mount first; then 2 address, 3 length
  pub read_held : (logical page : ℕ) (buffer : List ℕ) → (held false ≡ 0 → ⊥) → reading_lent s l n logical page buffer ≡ read_handed (handed (held false) (none_sent l)) buffer
  unfolding result_of reading_lent open_read_request
  read_held logical page buffer x = rw (ne_eqb (held false) 0 x, right) (ap (λ h. read_handed h buffer) (unchanged (held false)))

  pub read_refused : (logical page : ℕ) (buffer : List ℕ) → held false ≡ 0 → (refusal_of s (chip_of l) (state_of l).state logical page buffer ≡ 0 → ⊥)
      → reading_lent s l n logical page buffer ≡ read_handed (handed (refusal_of s (chip_of l) (state_of l).state logical page buffer) (none_sent l)) buffer
  unfolding result_of reading_lent open_read_request read_request
  read_refused logical page buffer z x =
      let code : ℕ = refusal_of s (chip_of l) (state_of l).state logical page buffer in
      rw (eq-eqb (held false) 0 z, ne_eqb code 0 x, right, refusal_stays s l logical page (length buffer)) (ap (λ h. read_handed h buffer) (unchanged code))

  -- the same and 15 between 7 and 2
  pub write_held : (logical page : ℕ) (given : List ℕ) → (held (is_opened (state_of l)) ≡ 0 → ⊥) → writing_lent s l n logical page given ≡ handed (held (is_opened (state_of l))) (none_sent l)
  unfolding result_of writing_lent open_write_request
  write_held logical page given x = rw (ne_eqb (held (is_opened (state_of l))) 0 x) (unchanged (held (is_opened (state_of l))))

  pub write_refused : (logical page : ℕ) (given : List ℕ) → held (is_opened (state_of l)) ≡ 0 → (refusal_of s (chip_of l) (state_of l).state logical page given ≡ 0 → ⊥)
      → writing_lent s l n logical page given ≡ handed (refusal_of s (chip_of l) (state_of l).state logical page given) (none_sent l)
  unfolding result_of writing_lent open_write_request write_request
  write_refused logical page given z x =
      let code : ℕ = refusal_of s (chip_of l) (state_of l).state logical page given in
      rw (eq-eqb (held (is_opened (state_of l))) 0 z, ne_eqb code 0 x, refusal_stays s l logical page (length given)) (unchanged code)

  pub open_held : (logical page : ℕ) (given : List ℕ) → (held (is_opened (state_of l)) ≡ 0 → ⊥) → opening_lent s l n logical page given ≡ handed (held (is_opened (state_of l))) (none_sent l)
  unfolding result_of opening_lent open_request
  open_held logical page given x = rw (ne_eqb (held (is_opened (state_of l))) 0 x) (unchanged (held (is_opened (state_of l))))

  pub open_refused : (logical page : ℕ) (given : List ℕ) → held (is_opened (state_of l)) ≡ 0 → (refusal_of s (chip_of l) (state_of l).state logical page given ≡ 0 → ⊥)
      → opening_lent s l n logical page given ≡ handed (refusal_of s (chip_of l) (state_of l).state logical page given) (none_sent l)
  unfolding result_of opening_lent open_request
  open_refused logical page given z x =
      let code : ℕ = refusal_of s (chip_of l) (state_of l).state logical page given in
      rw (eq-eqb (held (is_opened (state_of l))) 0 z, ne_eqb code 0 x) (unchanged code)

  -- an erase is never refused with 3
  pub erase_held : (logical : ℕ) → (held (is_opened (state_of l)) ≡ 0 → ⊥) → erasing_lent s l n logical ≡ handed (held (is_opened (state_of l))) (none_sent l)
  unfolding result_of erasing_lent open_erase_request
  erase_held logical x = rw (ne_eqb (held (is_opened (state_of l))) 0 x) (unchanged (held (is_opened (state_of l))))

  pub erase_refused : (logical : ℕ) → held (is_opened (state_of l)) ≡ 0 → (erase_refusal s (chip_of l) (state_of l).state logical ≡ 0 → ⊥) → erasing_lent s l n logical ≡ handed (erase_refusal s (chip_of l) (state_of l).state logical) (none_sent l)
  unfolding result_of erasing_lent open_erase_request erase_request
  erase_refused logical z x =
      let code : ℕ = erase_refusal s (chip_of l) (state_of l).state logical in
      rw (eq-eqb (held (is_opened (state_of l))) 0 z, ne_eqb code 0 x, refusal_stays s l logical 0 s.geometry.main) (unchanged code)

  -- 1, 7, 15 where none is open, with 0 for the word
  pub advance-refused : (most : ℕ) (finished : List ℕ) → length finished ≡ 1 → (held (eqb (state_of l).write.opened 0) ≡ 0 → ⊥) → advancing_lent s l n most finished ≡ advance_handed (handed (held (eqb (state_of l).write.opened 0)) (none_sent l)) (0 ∷ [])
  unfolding result_of advancing_lent advance_request answered
  advance-refused most finished one x =
      let long = right-long (length l.state) (length l.interface) (length l.sent) right in
      rw (right, eq-eqb (length finished) 1 one, ne_eqb (held (eqb (state_of l).write.opened 0)) 0 x, stored_again l.state long.state_long bytes, interface_kept l.interface long.interface_long)

  -- 1, 7, and 15 while one is open, with 0 for the number
  pub append_held : (sale : Sale) (number : List ℕ) → length number ≡ 1 → (held (is_opened (state_of l)) ≡ 0 → ⊥) → appending_lent s l n sale number ≡ told_handed (handed (held (is_opened (state_of l))) (none_sent l)) (0 ∷ [])
  unfolding result_of told_lent open_append_request answered
  append_held sale number one x =
      let long = right-long (length l.state) (length l.interface) (length l.sent) right in
      rw (right, eq-eqb (length number) 1 one, ne_eqb (held (is_opened (state_of l))) 0 x, stored_again l.state long.state_long bytes, interface_kept l.interface long.interface_long)

  -- 1 and 7, with 0 for the takings
  pub takings_held : (takings : List ℕ) → length takings ≡ 1 → (held false ≡ 0 → ⊥) → takings_lent s l n takings ≡ told_handed (handed (held false) (none_sent l)) (0 ∷ [])
  unfolding result_of told_lent open_takings_request answered
  takings_held takings one x =
      let long = right-long (length l.state) (length l.interface) (length l.sent) right in
      rw (right, eq-eqb (length takings) 1 one, ne_eqb (held false) 0 x, stored_again l.state long.state_long bytes, interface_kept l.interface long.interface_long)

-- 1 where the parameter page has another length, with four zeros for the sizes
pub identify_refused : (mask fates : List ℕ) (l : Lent) (n : ℕ) (page : List ℕ) (logical : ℕ) (sizes : List ℕ) → rightly l ≡ true → Bytes l.state
    → length sizes ≡ 4 → (length page ≡ 768 → ⊥) → identifying_lent mask fates l n page logical sizes ≡ identify_handed (handed 1 (none_sent l)) (0 ∷ 0 ∷ 0 ∷ 0 ∷ [])
unfolding result_of identifying_lent open_identify_request identify_request stops
identify_refused mask fates l n page logical sizes right bytes four x =
    let long = right-long (length l.state) (length l.interface) (length l.sent) right in
    rw (right, eq-eqb (length sizes) 4 four, ne_eqb (length page) 768 x, stored_again l.state long.state_long bytes, interface_kept l.interface long.interface_long)

-- the reader's buffer changes only with the answer 0
pub buffer_kept : (s : Setting) (l : Lent) (n logical page : ℕ) (buffer : List ℕ) → ((reading_lent s l n logical page buffer).handed.answer ≡ 0 → ⊥)
    → (reading_lent s l n logical page buffer).buffer ≡ buffer
unfolding reading_lent answered open_read_request result_of
buffer_kept s l n logical page buffer x =
    cases (rightly l)
    (λ t.
    cases (eqb (open_refusal s.geometry (sized_for s (chip_of l)) (state_of l) false) 0)
    (λ u. rw (t, u) (read_keeps s (chip_of l) n (state_of l).state logical page buffer (λ e. x (rw (t, u) e))))
    (λ u. rw (t, u)))
    (λ f. rw f)

-- the next call takes the chip that this one left; its state is in the contracts (`PassedOn`)
pub chip_passed_on : (r : OpenResult) → chip_of (put_back r).left ≡ r.chip
chip_passed_on r =
    ap (λ (i : Interface). device i r.chip.array r.chip.register r.chip.history) (interface_read r.chip.interface)
