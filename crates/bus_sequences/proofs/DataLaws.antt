-- Laws of lists of cycles sent one by one: data in, data out, the buffer that the data fills, a read from ready on, and an
-- operation up to ready. Assumes nothing.
use Prim.Native.Nat.{ℕ, zero, suc, ◌+◌, ◌-◌, ◌<◌, ◌≤◌}
use mathlib.Core.Bool.{true, false}
use mathlib.Core.List.{List, [], ◌∷◌, ◌++◌, map, append-nil}
use mathlib.Core.Path.{◌≡◌, sym, ap, ◌∙◌}
use native.Mathlib.Numerals.{add-one}
use native.Mathlib.Omega.{arith}
use lib.ListN.{length, take, drop, get_or, set, replicate, take-append-drop, drop_of_length-le}
use lib.Seq.{drop-cons, take-suc-set, drop-set-lt, drop-drop, append_snoc}
use Rattle.cells.specs.Cells.{over}
use Rattle.chip_array.specs.Device.{Setting}
use Rattle.chip.specs.Chip.{Cycle}
use Rattle.chip.specs.Chip.Cycle.{command, data_in, data_out}
use Rattle.bus.specs.Line.{Line, send, send_all, goes_on}
use Rattle.bus.proofs.LineLaws.{send_all_append, send_all_stopped}
use Rattle.bus_polling.specs.Polling.{status_reads, polled, outcome_of, ended_as}
use Rattle.bus_polling.specs.Outcomes.{is_passed}
use Rattle.bus_polling.proofs.PollLaws.{polled_all}
use Rattle.bus_sequences.specs.Cycles.{put_out, outputs, started_cycles, when_ready, when_ready_outcome, confirm_cycles, confirmed_cycles, page_read, page_line, read_cycles, read_outcome, read_outputs}

module _ (s : Setting) where
  -- lists of cycles put together
  pub lone : {k : Line} (l : Line) (c : Cycle) → k ≡ send s l c → k ≡ send_all s l (c ∷ [])
  unfolding send_all
  lone l c e = e

  pub onward : {m k : Line} (l : Line) (c : Cycle) (cs : List Cycle) → m ≡ send s l c → k ≡ send_all s m cs → k ≡ send_all s l (c ∷ cs)
  unfolding send_all
  onward l c cs e f = f ∙ ap (λ (x : Line). send_all s x cs) e

  pub joined : {m k : Line} (l : Line) (xs ys : List Cycle) → m ≡ send_all s l xs → k ≡ send_all s m ys → k ≡ send_all s l (xs ++ ys)
  joined l xs ys e f = f ∙ ap (λ (x : Line). send_all s x ys) e ∙ sym (send_all_append s l xs ys)

  -- cycle i of some leaves the line k: the rest is due, or the line stopped; past the last none is due
  pub data_goes : {k : Line} (l : Line) (xs : List ℕ) (i : ℕ) → i < length xs → k ≡ send s l (data_in (get_or xs i 0)) → send_all s k (map data_in (drop (i + 1) xs)) ≡ send_all s l (map data_in (drop i xs))
  unfolding send_all
  data_goes l xs i h e = rw (e, add-one, drop-cons xs i 0 h)

  pub data_stops : {k : Line} (l : Line) (xs : List ℕ) (i : ℕ) → i < length xs → k ≡ send s l (data_in (get_or xs i 0)) → goes_on k ≡ false → k ≡ send_all s l (map data_in (drop i xs))
  data_stops {k} l xs i h e g = sym (send_all_stopped s k (map data_in (drop (i + 1) xs)) g) ∙ data_goes l xs i h e

  pub data_done : (l : Line) (xs : List ℕ) (i : ℕ) → length xs ≤ i → l ≡ send_all s l (map data_in (drop i xs))
  unfolding send_all
  data_done l xs i h = rw (drop_of_length-le xs {i = i} h)

  pub repeat_goes : {k : Line} (l : Line) (c : Cycle) (n i : ℕ) → i < n → k ≡ send s l c → send_all s k (replicate (n - (i + 1)) c) ≡ send_all s l (replicate (n - i) c)
  unfolding send_all
  repeat_goes l c n i h e =
      let w : n - i ≡ suc (n - (i + 1)) = omega arith in
      rw (e, w)

  pub repeat_stops : {k : Line} (l : Line) (c : Cycle) (n i : ℕ) → i < n → k ≡ send s l c → goes_on k ≡ false → k ≡ send_all s l (replicate (n - i) c)
  repeat_stops {k} l c n i h e g = sym (send_all_stopped s k (replicate (n - (i + 1)) c) g) ∙ repeat_goes l c n i h e

  pub repeat_done : (l : Line) (c : Cycle) (n i : ℕ) → n ≤ i → l ≡ send_all s l (replicate (n - i) c)
  unfolding send_all
  repeat_done l c n i h =
      let w : n - i ≡ zero = omega arith in
      rw w

  -- a buffer that is filled up to i, and then by n output cycles
  module _ (output : Cycle) (byte_of : Line → ℕ) where
    abbrev pub filled : ℕ → Line → ℕ → List ℕ → List ℕ
    filled n l i xs = take i xs ++ over (put_out s output byte_of n l) (drop i xs)

    pub filled_one : (n : ℕ) (l : Line) (i : ℕ) (xs : List ℕ) (x : ℕ) → goes_on (send s l output) ≡ true → i < length xs → x ≡ byte_of l → filled (suc n) l i xs ≡ filled n (send s l output) (suc i) (set xs i x)
    unfolding put_out
    filled_one n l i xs x h p e =
        let m = length (put_out s output byte_of n (send s l output)) in
        let j : i + suc m ≡ suc i + m = omega arith in
        let k : drop (suc m) (drop i xs) ≡ drop m (drop (suc i) xs) =
        drop-drop (suc m) i xs ∙ ap (λ (y : ℕ). drop y xs) j ∙ sym (drop-drop m (suc i) xs) in
        rw (h, take-suc-set xs i x p, drop-set-lt (suc i) xs i x (omega arith), ← e, append_snoc, k)

    pub fill_goes : {k : Line} {byte : ℕ} (l : Line) (n i : ℕ) (xs : List ℕ) → i < n → i < length xs → k ≡ send s l output → byte ≡ byte_of l → goes_on k ≡ true → filled (n - (i + 1)) k (i + 1) (set xs i byte) ≡ filled (n - i) l i xs
    fill_goes {byte = byte} l n i xs h p e f g =
        let w : n - i ≡ suc (n - (i + 1)) = omega arith in
        rw (e, w, add-one i) (sym (filled_one _ l i xs byte (rw e at g) p f))

    pub fill_stops : {k : Line} (l : Line) (n i : ℕ) (xs : List ℕ) → i < n → k ≡ send s l output → goes_on k ≡ false → xs ≡ filled (n - i) l i xs
    unfolding put_out
    fill_stops l n i xs h e g =
        let w : n - i ≡ suc (n - (i + 1)) = omega arith in
        rw (w, rw e at g) (sym (take-append-drop i xs))

    pub fill_done : (l : Line) (n i : ℕ) (xs : List ℕ) → n ≤ i → xs ≡ filled (n - i) l i xs
    unfolding put_out
    fill_done l n i xs h =
        let w : n - i ≡ zero = omega arith in
        rw w (sym (take-append-drop i xs))

  -- what is not ready stops there, and what is goes on with the rest
  pub ready_stops : {k : Line} (l : Line) (first rest : List Cycle) → k ≡ send_all s l first → is_passed (outcome_of k) ≡ false → (k ≡ send_all s l (when_ready s l first rest)) × (outcome_of k ≡ when_ready_outcome s l first rest)
  ready_stops l first rest e h =
      let t = rw e at h in
      (e ∙ ap (send_all s l) (sym (append-nil first)) ∙ rw t, ap outcome_of e ∙ rw t)

  pub ready_goes : {k d : Line} (l : Line) (first rest : List Cycle) → k ≡ send_all s l first → is_passed (outcome_of k) ≡ true → d ≡ send_all s k rest → (d ≡ send_all s l (when_ready s l first rest)) × (ended_as d ≡ when_ready_outcome s l first rest)
  ready_goes l first rest e h g =
      let t = rw e at h in
      let p : _ ≡ send_all s l (first ++ rest) = joined l first rest e g in
      (p ∙ rw t, ap ended_as p ∙ rw t)

  -- a read that is not ready stops there, and one that is goes on with 00h and the data
  pub read_stops : {k : Line} (l : Line) (row column n : ℕ) → k ≡ page_line s l row column → is_passed (outcome_of k) ≡ false → (k ≡ send_all s l (read_cycles s l row column n)) × (outcome_of k ≡ read_outcome s l row column n) × ((xs : List ℕ) → xs ≡ over (read_outputs s l row column n) xs)
  unfolding read_cycles read_outcome read_outputs
  read_stops l row column n e h =
      let t = rw e at h in
      let r = ready_stops l (page_read s l row column) (command 0 ∷ replicate n data_out) e h in
      (r.0, r.1, λ xs. rw t)

  pub read_goes : {k f d : Line} (l : Line) (row column n : ℕ) → k ≡ page_line s l row column → is_passed (outcome_of k) ≡ true → f ≡ send s k (command 0) → d ≡ send_all s f (replicate n data_out) → (d ≡ send_all s l (read_cycles s l row column n)) × (ended_as d ≡ read_outcome s l row column n) × (outputs s n f ≡ read_outputs s l row column n)
  unfolding read_cycles read_outcome read_outputs
  read_goes {k} l row column n e h f g =
      let t = rw e at h in
      let r = ready_goes l (page_read s l row column) (command 0 ∷ replicate n data_out) e h (onward k (command 0) (replicate n data_out) f g) in
      (r.0, r.1, ap (outputs s n) (f ∙ ap (λ (x : Line). send s x (command 0)) e) ∙ rw t)

  -- an operation up to the status read that reports ready, and one with a confirm cycle
  pub started_all : {n k : Line} (l : Line) (first : List Cycle) (start : Cycle) → n ≡ send_all s l (first ++ (start ∷ command 112 ∷ [])) → k ≡ polled s 256 n → k ≡ send_all s l (started_cycles s l first start)
  started_all l first start e h =
      let cs = first ++ (start ∷ command 112 ∷ []) in
      h ∙ ap (polled s 256) e ∙ polled_all s 256 (send_all s l cs)
      ∙ sym (send_all_append s l cs (status_reads s (send_all s l cs).chip))

  pub confirmed_all : {m n k : Line} (l : Line) (first : List Cycle) (code : ℕ) → m ≡ send_all s l first → n ≡ send_all s m (confirm_cycles code) → k ≡ polled s 256 n → k ≡ send_all s l (confirmed_cycles s l first code)
  confirmed_all l first code e f h = started_all l first (command code) (joined l first (confirm_cycles code) e f) h
