-- A load on its way: the request made last and those that are left are what is left of the load. Assumes nothing.
use Prim.Native.Nat.{ℕ, zero, suc, ◌+◌, ◌-◌, ◌<◌, ◌≤◌}
use mathlib.Core.List.{List, [], ◌∷◌}
use mathlib.Core.Path.{◌≡◌, refl, sym, ap, ap₂, ◌∙◌}
use native.Mathlib.Omega.{arith}
use borrow.Author.Tests.{ne_eqb}
use lib.ListN.{length, drop}
use lib.Seq.{drop-drop, drop-nil}
use Rattle.demo_store.specs.declared.Store.{Store}
use Rattle.demo_store.specs.declared.Ended.{Ended}
use Rattle.demo_store.specs.Small.{new_store}
use Rattle.state.specs.State.{mounted, free_blocks}
use Rattle.bench_requests.specs.declared.Request as bench
use Rattle.bench_requests.specs.declared.Figures.{Figures}
use Rattle.bench_requests.specs.Requests.{performed, figures_of}
use Rattle.test_load.specs.declared.Chosen.{Chosen}
use Rattle.test_load.specs.Requests.{request_from, requests_from}
use Rattle.demo_load.specs.Load.{asked, ends_from, begun, request_count, load, HasLine, last_of}

-- a request that ended so, and n that are left
abbrev pub on_from : Ended → ℕ → ℕ → List Ended
on_from e n last = e ∷ ends_from e.store (requests_from n last 2 4)

-- before the first request
pub begins : (seed count n : ℕ) (e : Ended) → n ≡ request_count seed count → e ≡ begun seed → load seed count ≡ on_from e (n - 0) seed
begins seed count n e p q =
    let all : n - 0 ≡ request_count seed count = omega (arith, p) in
    sym (ap₂ (λ (x : Ended) (k : ℕ). on_from x k seed) q all)

-- one request more
pub one_more : (es : List Ended) (made n last : ℕ) (c : Chosen) (r : bench.Request) (e f : Ended) → made < n → drop made es ≡ on_from e (n - made) last → c ≡ request_from last 2 4
    → r ≡ asked c.request → f ≡ performed e.store r → drop (made + 1) es ≡ on_from f (n - (made + 1)) c.last
unfolding ends_from requests_from
one_more es made n last c r e f h d p a q =
    let k : ℕ = n - (made + 1) in
    let left : n - made ≡ suc k = omega arith in
    let as-drawn : f ≡ performed e.store (asked (request_from last 2 4).request) =
    q ∙ ap (performed e.store) a ∙ ap (λ (x : Chosen). performed e.store (asked x.request)) p in
    sym (drop-drop 1 made es) ∙ ap (drop 1) (d ∙ ap (λ (j : ℕ). on_from e j last) left)
    ∙ sym (ap₂ (λ (x : Ended) (y : Chosen). on_from x k y.last) as-drawn p)

-- the line of the request made last
pub has_line : (es : List Ended) (made : ℕ) (e : Ended) (rest : List Ended) (f : Figures) → drop made es ≡ e ∷ rest → f ≡ figures_of e → HasLine es made f
unfolding HasLine
has_line [] zero e rest f d q = let clash : ◌≡◌ {A = ℕ} 0 1 = cc in absurd (omega arith)
has_line [] (suc n) e rest f d q = let clash : ◌≡◌ {A = ℕ} 0 1 = cc in absurd (omega arith)
has_line (x ∷ es) zero e rest f d q = let same : e ≡ x = cc in q ∙ ap figures_of same
has_line (x ∷ es) (suc n) e rest f d q = has_line es n e rest f d q

-- no request is left after the last one
last_is : (e : Ended) (es : List Ended) (n : ℕ) (r : Ended) → drop n (e ∷ es) ≡ r ∷ [] → r ≡ last_of e es
unfolding last_of
last_is e [] zero r d = cc
last_is e [] (suc n) r d = let none = drop-nil {A = Ended} n in let clash : ◌≡◌ {A = ℕ} 0 1 = cc in absurd (omega arith)
last_is e (x ∷ es) zero r d = let clash : ◌≡◌ {A = ℕ} 0 1 = cc in absurd (omega arith)
last_is e (x ∷ es) (suc n) r d = last_is x es n r d

pub ends : (first : Ended) (es : List Ended) (made n last : ℕ) (e : Ended) → n ≤ made → drop made (first ∷ es) ≡ on_from e (n - made) last → e ≡ last_of first es
unfolding ends_from requests_from
ends first es made n last e h d =
    let none : n - made ≡ 0 = omega arith in
    last_is first es made e (d ∙ ap (λ (j : ℕ). on_from e j last) none)

-- seed 0: one line, 2 0 0
pub seed_zero : (count : ℕ) → load 0 count ≡ record { answer = 2; sent = 0; store = new_store 2 } ∷ []
unfolding begun ends_from requests_from
seed_zero count = refl

pub seed_zero-line : figures_of (begun 0) ≡ record { answer = 2; sent = 0; free = 0 }
unfolding begun free_blocks mounted
seed_zero-line = refl

-- any other seed: the formatting's line and so many more
many : (s : Store) (n last : ℕ) → length (ends_from s (requests_from n last 2 4)) ≡ n
unfolding ends_from requests_from
many s zero last = refl
many s (suc n) last = ap suc (many (performed s (asked (request_from last 2 4).request)).store n (request_from last 2 4).last)

pub line-count : (seed count : ℕ) → (seed ≡ 0 → ⊥) → length (load seed count) ≡ suc count
line-count seed count h = ap suc (many (begun seed).store (request_count seed count) seed) ∙ rw (ne_eqb seed 0 h)
