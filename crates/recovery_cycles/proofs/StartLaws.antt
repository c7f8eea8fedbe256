-- The confirm cycles of an operation: its own, where it is sent and taken, and no other. Assumes nothing.
use Prim.Native.Nat.{ℕ, ◌/◌, ◌%◌}
use mathlib.Core.Bool.{Bool, true, false, cond}
use mathlib.Core.List.{List, [], ◌∷◌, ◌++◌, append-nil, append_assoc}
use mathlib.Core.Path.{◌≡◌, refl, sym, ap, ap₂, ◌∙◌}
use borrow.Author.Tests.{eqb-true, eq-eqb}
use borrow.Table.Steps.{cases}
use lib.Dec.{eqb}
use lib.ListN.{replicate}
use Rattle.bools.proofs.BoolLaws.{both, clash}
use Rattle.chip_array.specs.Device.{Device, Setting}
use Rattle.chip.specs.Chip.{Cycle, exec, is_confirm}
use Rattle.chip.specs.Chip.Cycle.{command, address, data_in, data_out, status, parameter_address, parameter_out}
use Rattle.bus.specs.Line.{Line, may_go, admits, blocked, send, send_all, sent, run, goes_on, Going}
use Rattle.bus.proofs.LineLaws.{send_all_append, send_all_stopped, send_on, send_off, blocked-stops, admits-stopped, going}
use Rattle.chip_laws.proofs.ReplayLaws.{sent_append, sent_runs}
use Rattle.bus_polling.specs.Outcomes.{is_failed}
use Rattle.bus_polling.specs.Polling.{polls, status_reads}
use Rattle.bus_sequences.specs.Cycles.{confirm_cycles, confirmed_cycles}
use Rattle.operations.specs.Trace.{ArrayOperation, started_by, told_by}
use Rattle.recovery_cycles.specs.Starts.{takes, gives_failed, fails_next, start, Start, starts_at, starts_in, kind_of, StartedAt, Traced}
use Rattle.recovery_cycles.proofs.AllLaws.{All, all_append, all_repeated, all-sent, all_weaker}
use Rattle.recovery_cycles.proofs.FailLaws.{fails-append, confirm_fails, confirm_passes}

module _ (s : Setting) where
  -- where the cycles that follow read no E1h before their first confirm cycle
  pub starts_append : (d : Device) (xs ys : List Cycle) → fails_next s (run s d xs) ys ≡ false → starts_in s d (xs ++ ys) ≡ starts_in s d xs ++ starts_in s (run s d xs) ys
  unfolding starts_in run
  starts_append d [] ys h = refl
  starts_append d (x ∷ xs) ys h =
      let e = exec s d x in
      ap₂ (λ (b : Bool) (ts : List Start). starts_at s d x b ++ ts) (fails-append s e xs ys h) (starts_append e xs ys h)
      ∙ sym (append_assoc (starts_at s d x (fails_next s e xs)) (starts_in s e xs) (starts_in s (run s e xs) ys))

-- a cycle that is no confirm cycle, and one that is no status read either
abbrev pub Idle : Cycle → Type 0
Idle c = (s : Setting) (d : Device) → takes s d c ≡ false

abbrev pub Plain : Cycle → Type 0
Plain c = Idle c × ((d : Device) → gives_failed d c ≡ false)

pub plain_command_lem : (code : ℕ) → is_confirm code ≡ false → Plain (command code)
unfolding takes gives_failed
plain_command_lem code h = (λ s d. rw h, λ d. refl)

pub plain_address : (byte : ℕ) → Plain (address byte)
unfolding takes gives_failed
plain_address byte = (λ s d. refl, λ d. refl)

pub plain_in : (byte : ℕ) → Plain (data_in byte)
unfolding takes gives_failed
plain_in byte = (λ s d. refl, λ d. refl)

pub plain_out : Plain data_out
unfolding takes gives_failed
plain_out = (λ s d. refl, λ d. refl)

pub idle_status : Idle status
unfolding takes
idle_status s d = refl

module _ (s : Setting) where
  idle_at : (d : Device) (c : Cycle) (b : Bool) → Idle c → starts_at s d c b ≡ []
  unfolding starts_at
  idle_at d (command code) b h = rw (h s d)
  idle_at d (address byte) b h = refl
  idle_at d (data_in byte) b h = refl
  idle_at d data_out b h = refl
  idle_at d status b h = refl
  idle_at d (parameter_address byte) b h = refl
  idle_at d (parameter_out page) b h = refl

  -- idle cycles start nothing, and plain ones read no E1h
  pub idle_starts : (d : Device) (cs : List Cycle) → All Idle cs → starts_in s d cs ≡ []
  unfolding starts_in
  idle_starts d [] h = refl
  idle_starts d (c ∷ cs) h = rw (idle_at d c (fails_next s (exec s d c) cs) h.0, idle_starts (exec s d c) cs h.1)

  pub plain_first : (d : Device) (xs ys : List Cycle) → All Plain xs → fails_next s d (xs ++ ys) ≡ fails_next s (run s d xs) ys
  unfolding fails_next run
  plain_first d [] ys h = refl
  plain_first d (x ∷ xs) ys h = rw (h.0.0 s d, h.0.1 d) (plain_first (exec s d x) xs ys h.1)

  pub plain_passes : (d : Device) (xs : List Cycle) → All Plain xs → fails_next s d xs ≡ false
  unfolding fails_next
  plain_passes d xs h = ap (fails_next s d) (sym (append-nil xs)) ∙ plain_first d xs [] h

  -- where the line still goes on all cycles were sent, and where it does not none is
  pub sent_whole : (l : Line) (cs : List Cycle) → goes_on (send_all s l cs) ≡ true → sent s l cs ≡ cs
  unfolding send_all sent
  sent_whole l [] h = refl
  sent_whole l (c ∷ cs) h =
      cases (admits l)
      (λ t. rw t (ap (λ (xs : List Cycle). c ∷ xs) (sent_whole (send s l c) cs h)))
      (λ f.
      clash h
      (ap (λ (x : Line). goes_on (send_all s x cs)) (send_off s l c f)
      ∙ ap goes_on (send_all_stopped s (blocked l) cs (blocked-stops l))
      ∙ blocked-stops l))

  none_sent_fact : (l : Line) (cs : List Cycle) → goes_on l ≡ false → sent s l cs ≡ []
  unfolding sent
  none_sent_fact l [] h = refl
  none_sent_fact l (c ∷ cs) h = rw (admits-stopped l h)

  -- an operation: plain cycles, its confirm cycle, 70h, the status reads, and plain cycles
  module _ (l : Line) (before out : List Cycle) (code kind row : ℕ) (bytes : List ℕ) (confirms : is_confirm code ≡ true) (kind_is : kind ≡ kind_of code) (plain-before : All Plain before) (plain_end : All Plain out) where
    -- the line that its confirm cycle finds, and the one that it leaves
    abbrev reached : Line
    reached = send_all s l before

    abbrev left : Line
    left = send s reached (command code)

    abbrev reads : List Cycle
    reads = status_reads s (send_all s l (before ++ confirm_cycles code)).chip

    abbrev rest : List Cycle
    rest = command 112 ∷ (reads ++ out)

    abbrev tail : List Cycle
    tail = sent s reached (command code ∷ rest)

    abbrev failed : Bool
    failed = fails_next s (exec s reached.chip (command code)) (sent s left rest)

    abbrev operation : ArrayOperation
    operation =
        record {
          kind = kind;
          block = row / s.geometry.pages;
          page = row % s.geometry.pages;
          bytes = bytes;
          before = reached.chip.array;
          answer = told_by kind (send_all s l (confirmed_cycles s l before code));
        }

    rest_idle : All Idle rest
    unfolding is_confirm
    rest_idle =
        ((plain_command_lem 112 refl).0, all_append Idle reads out (all_repeated Idle (polls s 256 (send_all s l (before ++ confirm_cycles code)).chip) status idle_status) (all_weaker Plain Idle (λ c p. p.0) out plain_end))

    goes_is : goes_on (send_all s l (before ++ (command code ∷ []))) ≡ goes_on left
    unfolding send_all
    goes_is = ap goes_on (send_all_append s l before (command code ∷ []))

    reached_goes : admits reached ≡ true → goes_on reached ≡ true
    unfolding may_go goes_on
    reached_goes h =
        let c = both (eqb reached.cut 0) _ h in
        rw (c.0, (both (eqb reached.chip.interface.illegal 0) _ c.1).0)

    reached_by : admits reached ≡ true → reached.chip ≡ run s l.chip before
    reached_by h = sent_runs s l before ∙ ap (run s l.chip) (sent_whole l before (reached_goes h))

    left_goes : admits reached ≡ true → goes_on left ≡ eqb (exec s reached.chip (command code)).interface.illegal 0
    unfolding may_go goes_on
    left_goes h = ap goes_on (send_on s reached (command code) h) ∙ rw (both (eqb reached.cut 0) _ h).0

    -- no E1h is read before its confirm cycle
    tail_passes : fails_next s reached.chip tail ≡ false
    unfolding sent fails_next takes gives_failed
    tail_passes =
        cases (admits reached)
        (λ t. cases (eqb (exec s reached.chip (command code)).interface.illegal 0) (λ e. rw (t, confirms, e))
        (λ e. rw (t, confirms, e, none_sent_fact left rest (left_goes t ∙ e))))
        (λ f. rw f)

    after_first : fails_next s (run s l.chip (sent s l before)) tail ≡ false
    after_first = ap (λ (d : Device). fails_next s d tail) (sym (sent_runs s l before)) ∙ tail_passes

    pub operation_passes : fails_next s l.chip (sent s l (before ++ (command code ∷ rest))) ≡ false
    operation_passes =
        ap (fails_next s l.chip) (sent_append s l before (command code ∷ rest))
        ∙ plain_first l.chip (sent s l before) tail (all-sent Plain s l before plain-before)
        ∙ after_first

    from_confirm : starts_in s l.chip (sent s l (before ++ (command code ∷ rest))) ≡ starts_in s reached.chip tail
    from_confirm =
        ap (starts_in s l.chip) (sent_append s l before (command code ∷ rest))
        ∙ starts_append s l.chip (sent s l before) tail after_first
        ∙ ap (λ (ts : List Start). ts ++ starts_in s (run s l.chip (sent s l before)) tail) (idle_starts l.chip (sent s l before) (all-sent Idle s l before (all_weaker Plain Idle (λ c p. p.0) before plain-before)))
        ∙ ap (λ (d : Device). starts_in s d tail) (sym (sent_runs s l before))

    starts_sent : admits reached ≡ true → starts_in s reached.chip tail ≡ cond (eqb (exec s reached.chip (command code)).interface.illegal 0) (start code reached.chip failed ∷ []) []
    unfolding sent starts_in starts_at takes
    starts_sent h =
        rw (h, confirms, idle_starts (exec s reached.chip (command code)) (sent s left rest) (all-sent Idle s left rest rest_idle))
        (append-nil _)

    starts_unsent : admits reached ≡ false → starts_in s reached.chip tail ≡ []
    unfolding sent starts_in
    starts_unsent h = rw h

    pub operation_starts : starts_in s l.chip (sent s l (before ++ (command code ∷ rest))) ≡ cond (goes_on left) (start code reached.chip failed ∷ []) []
    operation_starts =
        cases (admits reached)
        (λ t. from_confirm ∙ starts_sent t ∙ ap (λ (b : Bool). cond b (start code reached.chip failed ∷ []) []) (sym (left_goes t)))
        (λ t. from_confirm ∙ starts_unsent t ∙ ap (λ (b : Bool). cond b (start code reached.chip failed ∷ []) []) (sym (ap goes_on (send_off s reached (command code) t) ∙ blocked-stops reached)))

    started_unsent : admits reached ≡ false → started_by s l before code kind row bytes ≡ []
    unfolding started_by
    started_unsent h = rw (goes_is, send_off s reached (command code) h, blocked-stops reached)

    started_sent : admits reached ≡ true → started_by s l before code kind row bytes ≡ cond (eqb (exec s reached.chip (command code)).interface.illegal 0) (operation ∷ []) []
    unfolding started_by
    started_sent h = rw (goes_is, left_goes h)

    -- how it is answered
    module _ (t : admits reached ≡ true) (taken : (exec s reached.chip (command code)).interface.illegal ≡ 0) where
      asked_is : send_all s l (before ++ confirm_cycles code) ≡ send s left (command 112)
      unfolding send_all
      asked_is = send_all_append s l before (confirm_cycles code)

      reads_are : reads ≡ replicate (polls s 256 (send s left (command 112)).chip) status
      reads_are = ap (λ (x : Line). status_reads s x.chip) asked_is

      goes_left : Going left
      goes_left = going left (left_goes t ∙ eq-eqb _ _ taken)

      left_chip : left.chip ≡ exec s reached.chip (command code)
      left_chip = ap (λ (x : Line). x.chip) (send_on s reached (command code) t)

      quiet : (m : Line) (e : Device) → fails_next s e (sent s m out) ≡ false
      quiet m e = plain_passes e (sent s m out) (all-sent Plain s m out plain_end)

      failed_is : is_failed operation.answer ≡ failed
      unfolding send_all
      failed_is =
          ap (λ (x : Line). is_failed (told_by kind x)) (send_all_append s l (before ++ confirm_cycles code) reads ∙ ap₂ (send_all s) asked_is reads_are)
          ∙ sym (confirm_fails s reached.chip code confirms taken left goes_left left_chip out quiet kind kind_is)
          ∙ ap (λ (cs : List Cycle). fails_next s (exec s reached.chip (command code)) (sent s left (command 112 ∷ (cs ++ out)))) (sym reads_are)

      read_unfailed : code ≡ 48 → failed ≡ false
      read_unfailed e =
          ap (λ (cs : List Cycle). fails_next s (exec s reached.chip (command code)) (sent s left (command 112 ∷ (cs ++ out)))) reads_are
          ∙ confirm_passes s reached.chip code confirms taken left goes_left left_chip out quiet e

    pub operation_traced : ((b : Bool) → is_failed operation.answer ≡ b → (code ≡ 48 → b ≡ false) → (exec s (run s l.chip before) (command code)).interface.illegal ≡ 0 → reached.chip ≡ run s l.chip before → StartedAt s.geometry (start code reached.chip b) operation) → Traced s.geometry (starts_in s l.chip (sent s l (before ++ (command code ∷ rest)))) (started_by s l before code kind row bytes)
    unfolding Traced
    operation_traced f =
        cases (admits reached)
        (λ t.
        let at = reached_by t in
        cases (eqb (exec s reached.chip (command code)).interface.illegal 0)
        (λ e.
        let taken = eqb-true _ _ e in
        let here : StartedAt s.geometry (start code reached.chip failed) operation = f failed (failed_is t taken) (read_unfailed t taken) (ap (λ (d : Device). (exec s d (command code)).interface.illegal) (sym at) ∙ taken) at in
        rw (from_confirm, starts_sent t, started_sent t, e) (here, tt))
        (λ e. rw (from_confirm, starts_sent t, started_sent t, e) tt))
        (λ t. rw (from_confirm, starts_unsent t, started_unsent t) tt)
