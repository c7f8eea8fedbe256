-- Demand 3 over lists with appends and requests for the takings, and what the takings are. Assumes nothing but the laws named.
use Prim.Native.Nat.{ℕ, suc}
use mathlib.Core.Bool.{Bool, true, false}
use mathlib.Core.List.{List, [], ◌∷◌}
use mathlib.Core.Logic.{◌⊎◌, inl, inr}
use mathlib.Core.Option.{Option, none, some}
use mathlib.Core.Path.{◌≡◌, refl, sym, ap, subst, ◌∙◌}
use native.Mathlib.Omega.{arith}
use borrow.Table.Steps.{cases}
use borrow.Author.Tests.{eq-eqb, ne_eqb, eqb-false}
use lib.Dec.{eqb}
use lib.ListN.{length}
use Rattle.geometry.specs.declared.Geometry.{Geometry}
use Rattle.geometry.specs.Sizes.{block_size}
use Rattle.bus_polling.specs.Outcomes.{is_passed}
use Rattle.request.specs.Call.{result_of, sized_for}
use Rattle.open_write.specs.Open.{OpenState, is_opened, mounted_open}
use Rattle.open_write.specs.Requests.{open_refusal, through}
use Rattle.open_journal.specs.Requests.{append_beside, tells_unless, open_append_request, open_takings_request}
use Rattle.request.proofs.CallLaws.{stop_least}
use Rattle.journal.specs.Records.{room, records}
use Rattle.journal.specs.declared.Sale.{Sale}
use Rattle.journal_requests.specs.Requests.{pass_run, takings_run, takings_request, sale_refusal, sale_write, comes_to_write, append_run, append_request, records_in}
use Rattle.progress.specs.Progress.{Progress}
use Rattle.fill_tables.specs.Tables.{Tabled}
use Rattle.recovery.specs.Book.{Book, Note, Account, entered, mounted, settled, fed}
use Rattle.recovery.specs.Calls.{Lent, to_mount, Store, state_of, under_way, setting_of, chip_of, mount_on, copy_of_note, step, begun}
use Rattle.recovery.specs.Recovery.{Recovers, ReadsRight, Spares, shown_with, shown}
use Rattle.recovery_proof.specs.Answers.{ComesBack}
use Rattle.recovery_proof.specs.Invariant.{Inv}
use Rattle.recovery_proof.proofs.StartLaws.{start_inv}
use Rattle.recovery_proof.proofs.MountSteps.{mount_step}
use Rattle.recovery_proof.proofs.MountReads.{inv_recovered}
use Rattle.recovery_proof.proofs.InvariantLaws.{fit_sizes}
use Rattle.recovery_proof.proofs.RecoveryLaws.{event_inv, reads_by, spared_by}
use Rattle.recovery_proof.proofs.AnswerLaws.{comes_by}
use Rattle.recovery_journal.specs.Journal.{JournalEvent, other, to_append, to_takings, PossibleJournal, AllPossibleJournal, append_on, takings_on, sale_change, append_step, happens_journal, after_journal, AlwaysJournal, journal_of, book_takings, TellsTakings, TakingsRight, Enters, AppendsRight, TurnedAway, AppendsBarred, Settles, AfterCut}
use Rattle.recovery_journal.proofs.BookLaws.{records_book, takings_book}
use Rattle.recovery_journal.proofs.JournalSteps.{shown_quiet, unrefused, entries, valid_geometry, refused_by, adm, barred_by, allowed_in, up, unheld, append_step_fact, takings_step_fact}

-- one event keeps the invariant, and so does a list
pub happens_inv : (g : Geometry) (e : JournalEvent) (y : Store) → PossibleJournal g e y → Inv g y → Inv g (happens_journal g e y)
happens_inv g (other e) y t i = event_inv g e y t i
happens_inv g (to_append a sale) y t i = append_step_fact g y i a t.0 sale t.1
happens_inv g (to_takings a) y t i = takings_step_fact g y i a

pub after_inv : (g : Geometry) (es : List JournalEvent) (y : Store) → AllPossibleJournal g es y → Inv g y → Inv g (after_journal g es y)
unfolding after_journal AllPossibleJournal
after_inv g [] y t i = i
after_inv g (e ∷ es) y t i = after_inv g es (happens_journal g e y) t.1 (happens_inv g e y t.0 i)

pub by_inv : (P : Geometry → Store → Type 0) → ((g : Geometry) (y : Store) → Inv g y → P g y) → AlwaysJournal P
by_inv P f g a d x mask_bytes array_bytes kept z es t =
    f g (after_journal g es (begun g a d x)) (after_inv g es (begun g a d x) t (start_inv g a d x mask_bytes array_bytes kept z))

-- demand 3
pub recovers : AlwaysJournal Recovers
recovers = by_inv Recovers inv_recovered

pub comes_back : AlwaysJournal ComesBack
comes_back = by_inv ComesBack comes_by

pub read_right : AlwaysJournal ReadsRight
read_right = by_inv ReadsRight reads_by

pub spares : AlwaysJournal Spares
spares = by_inv Spares spared_by

-- a request for the takings gives those of what is shown
module _ (g : Geometry) (y : Store) (i : Inv g y) (a : Lent) where
  takings_told : TellsTakings g y (takings_on g a y)
  unfolding result_of open_takings_request takings_request
  takings_told =
      cases (eqb (refused_by g y i a) 0)
      (λ t.
      let fit = (adm g y i a t).sizes_fit in
      let m = (adm g y i a t).is_mounted in
      let p = takings_run (setting_of g a) (chip_of a y.chip) a.allowed y.state in
      cases (is_passed p.outcome)
      (λ q.
      rw (t, unrefused g y i a fit m, q)
      (record {
        gives = λ _. takings_book g (valid_geometry g y i a fit m) y.chip.array y.state.map y.state.kinds (shown g y) (entries g y i a fit m);
        else_none = λ x. absurd (x refl);
      }))
      (λ q. rw (t, unrefused g y i a fit m, q) (record { gives = λ z. absurd (omega (arith, z, stop_least p.outcome)); else_none = λ _. refl })))
      (λ t. rw t (record { gives = λ z. absurd (eqb-false _ 0 t z); else_none = λ _. refl }))

pub takings-right : AlwaysJournal TakingsRight
takings-right = by_inv TakingsRight (λ g y i a. takings_told g y i a)

-- after a mount nothing is under way, and the book is the one before it, or with the request under way as the last
settled-shown : (g : Geometry) (copy : Bool) (o : Option Note) (book : Book) (P : Book → Type 0) → P book → ((t : Note) → o ≡ some t → P (entered g t.change book))
    → P (shown_with g (settled g copy o book).noted (settled g copy o book).book)
unfolding settled shown_with
settled-shown g copy none book P x f = x
settled-shown g true (some t) book P x f = f t refl
settled-shown g false (some t) book P x f = x

told_as : {g : Geometry} {y : Store} {x b : ℕ} (t : ℕ) → (b ≡ t) ⊎ Settles g y b → x ≡ b → (x ≡ t) ⊎ Settles g y x
told_as {g} {y} {x} {b} t s e = subst (λ (k : ℕ). (k ≡ t) ⊎ Settles g y k) (sym e) s

fed-mount : (g : Geometry) (answer : ℕ) (copy : Bool) (y : Account) → answer ≡ 0 → fed g (mounted answer copy) y ≡ settled g copy y.noted y.book
unfolding fed
fed-mount g answer copy y z = rw (eq-eqb answer 0 z)

cut_by : (g : Geometry) (y : Store) → Inv g y → AfterCut g y
unfolding step
cut_by g y i depth a z b w =
    let told = (takings_told g (step g (to_mount depth a) y) (mount_step g y i depth a) b).gives w in
    let copy = copy_of_note g (mount_on depth g a y).chip.array (under_way y) in
    let e : (step g (to_mount depth a) y).account ≡ settled g copy (under_way y) y.account.book = fed-mount g (mount_on depth g a y).answer copy y.account z in
    told_as (book_takings g y.account.book)
    (settled-shown g copy (under_way y) y.account.book
    (λ book. (book_takings g book ≡ book_takings g y.account.book) ⊎ Settles g y (book_takings g book))
    (inl refl) (λ t e. inr (record { noted = t; under_way_fact = e; takings_are = refl })))
    (told ∙ ap (λ (x : Account). book_takings g (shown_with g x.noted x.book)) e)

pub after-cut : AlwaysJournal AfterCut
after-cut = by_inv AfterCut cut_by

barred_refusal : (g : Geometry) (fits : Bool) (x : OpenState) (barred : Bool) → fits ≡ true → mounted_open g x ≡ true → barred ≡ true → open_refusal g fits x barred ≡ 15
unfolding open_refusal
barred_refusal g fits x barred t m b = rw (t, m, b)

-- an append answered 0 enters its record and tells its number
module _ (g : Geometry) (y : Store) (i : Inv g y) (a : Lent) (sale : Sale) where
  abbrev w : Tabled
  w = sale_write (setting_of g a) (chip_of a y.chip) a.allowed y.state sale

  abbrev o : Progress
  o = pass_run (setting_of g a) (chip_of a y.chip) a.allowed y.state

  abbrev free : Bool
  free = eqb (barred_by g y i a) 0

  same : free ≡ true → records_in (setting_of g a) (chip_of a y.chip) y.state ≡ records (journal_of g y.account.book) (room g)
  same t =
      let fit = (allowed_in g y i a t).sizes_fit in
      let m = (allowed_in g y i a t).is_mounted in
      records_book g (valid_geometry g y i a fit m) y.chip.array y.state.map y.state.kinds (shown g y) (entries g y i a fit m)
      ∙ ap (λ (b : Book). records (journal_of g b) (room g)) (shown_quiet g y (up g y i a t).quiet)

  number_told : (append_on g a sale y).returned.answer ≡ 0 → (append_on g a sale y).told ≡ suc (records (journal_of g y.account.book) (room g))
  unfolding result_of open_append_request append_request append_run
  number_told =
      cases free
      (λ t.
      cases (is_passed o.outcome)
      (λ q.
      cases (eqb (sale_refusal (setting_of g a) (chip_of a y.chip) y.state sale) 0)
      (λ z. rw (t, unheld g y i a t, q, z) (λ k. rw (eq-eqb w.answer 0 k) (ap suc (same t))))
      (λ z. rw (t, unheld g y i a t, q, z) (λ k. absurd (eqb-false _ 0 z k))))
      (λ q. rw (t, unheld g y i a t, q) (λ k. absurd (omega (arith, k, stop_least o.outcome)))))
      (λ t. rw t (λ k. absurd (eqb-false _ 0 t k)))

  book_told : (append_on g a sale y).returned.answer ≡ 0 → (append_step g a sale y).account.book ≡ entered g (sale_change g (records (journal_of g y.account.book) (room g)) sale) y.account.book
  unfolding result_of open_append_request append_request append_run append_step comes_to_write fed
  book_told =
      cases free
      (λ t.
      cases (is_passed o.outcome)
      (λ q.
      cases (eqb (sale_refusal (setting_of g a) (chip_of a y.chip) y.state sale) 0)
      (λ z. rw (t, unheld g y i a t, q, z) (λ k. rw (eq-eqb w.answer 0 k) (ap (λ (e : ℕ). entered g (sale_change g e sale) y.account.book) (same t))))
      (λ z. rw (t, unheld g y i a t, q, z) (λ k. absurd (eqb-false _ 0 z k))))
      (λ q. rw (t, unheld g y i a t, q) (λ k. absurd (omega (arith, k, stop_least o.outcome)))))
      (λ t. rw t (λ k. absurd (eqb-false _ 0 t k)))

  none_told : ((append_on g a sale y).returned.answer ≡ 0 → ⊥) → (append_on g a sale y).told ≡ 0
  unfolding result_of open_append_request append_request append_run
  none_told =
      cases free
      (λ t.
      cases (is_passed o.outcome)
      (λ q.
      cases (eqb (sale_refusal (setting_of g a) (chip_of a y.chip) y.state sale) 0)
      (λ z. rw (t, unheld g y i a t, q, z) (λ x. rw (ne_eqb w.answer 0 x)))
      (λ z. rw (t, unheld g y i a t, q, z) (λ _. refl)))
      (λ q. rw (t, unheld g y i a t, q) (λ _. refl)))
      (λ t. rw t (λ _. refl))

  appended_so : Enters g y a sale
  appended_so = record { number_is = number_told; book_is = book_told; else_none = none_told }

  -- and is turned away while a write is open
  barred_so : length a.mask ≡ block_size g → mounted_open g (state_of y) ≡ true → is_opened (state_of y) ≡ true → barred_by g y i a ≡ 15
  barred_so long m b = barred_refusal g (sized_for (setting_of g a) (chip_of a y.chip)) (state_of y) (is_opened (state_of y)) (fit_sizes (setting_of g a) (chip_of a y.chip) i.fits long) m b

  turned_away : length a.mask ≡ block_size g → mounted_open g (state_of y) ≡ true → is_opened (state_of y) ≡ true → TurnedAway g y a sale
  unfolding result_of open_append_request append_step fed
  turned_away long m b =
      let e = barred_so long m b in
      let f : free ≡ false = ap (λ (k : ℕ). eqb k 0) e in
      record {
        gives = ap (λ (k : ℕ). result_of (tells_unless k (state_of y) (chip_of a y.chip) (through (append_beside (state_of y)) (append_request (setting_of g a) (chip_of a y.chip) a.allowed y.state sale)))) e;
        book_kept = rw f;
      }

pub appends_right : AlwaysJournal AppendsRight
appends_right = by_inv AppendsRight (λ g y i a sale m f. appended_so g y i a sale)

pub appends_barred : AlwaysJournal AppendsBarred
appends_barred = by_inv AppendsBarred (λ g y i a sale. turned_away g y i a sale)
