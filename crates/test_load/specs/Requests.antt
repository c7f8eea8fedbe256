-- The requests that the draws make.
use Rattle.std.specs.Prelude.{ℕ, zero, suc, ◌%◌, cond, List, [], ◌∷◌, eqb, ltb}
use Rattle.test_load.specs.Draws.{drawn, right}
use Rattle.test_load.specs.declared.Request.{Request}
use Rattle.test_load.specs.declared.Request.TheVariants.{Erase, Read, Write}
use Rattle.test_load.specs.declared.Chosen.{Chosen}

abbrev pub chosen : Request → ℕ → Chosen
chosen request last = record { request = request; last = last }

-- a draw's remainder by 8 picks erase (0), read (1 to 3) or write; the next draw the logical block by remainder, the next the page,
-- which an erase skips; a write's byte is the page draw's top eight bits
unfoldable pub request_from : ℕ → ℕ → ℕ → Chosen
request_from last logical pages =
    let kind = drawn last % 8 in
    let place = drawn (drawn last) in
    let third = drawn place in
    cond (eqb kind 0) (chosen (Erase (place % logical)) place)
    (cond (ltb kind 4) (chosen (Read (place % logical) (third % pages)) third)
    (chosen (Write (place % logical) (third % pages) (right third 24)) third))

-- the first requests of the load
unfoldable pub requests_from : ℕ → ℕ → ℕ → ℕ → List Request
requests_from zero last logical pages = []
requests_from (suc n) last logical pages =
    (request_from last logical pages).request ∷ requests_from n (request_from last logical pages).last logical pages
