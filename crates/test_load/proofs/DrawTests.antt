-- Draws and requests computed: the draw from 0, the first draws from seeds 1 and 2026, a request of each kind, and the first three of a load. Assumes nothing.
use mathlib.Core.List.{[], ◌∷◌}
use mathlib.Core.Path.{◌≡◌, refl}
use Rattle.test_load.specs.Draws.{drawn}
use Rattle.test_load.specs.Requests.{chosen, request_from, requests_from}
use Rattle.test_load.specs.declared.Request.TheVariants.{Erase, Read, Write}

draw_0 : drawn 0 ≡ 0
unfolding drawn
draw_0 = refl

draw_1 : drawn 1 ≡ 270369
unfolding drawn
draw_1 = refl

draw_2026 : drawn 2026 ≡ 525710612
unfolding drawn
draw_2026 = refl

draw_4294967295 : drawn 4294967295 ≡ 253983
unfolding drawn
draw_4294967295 = refl

reads : request_from 1 2 4 ≡ chosen (Read 1 1) 2647435461
unfolding request_from drawn
reads = refl

writes : request_from 2647435461 2 4 ≡ chosen (Write 1 0 44) 745495504
unfolding request_from drawn
writes = refl

erases : request_from 53684993 2 4 ≡ chosen (Erase 0) 1504982240
unfolding request_from drawn
erases = refl

first_three : requests_from 3 1 2 4 ≡ Read 1 1 ∷ Write 1 0 44 ∷ Read 0 1 ∷ []
unfolding requests_from request_from drawn
first_three = refl
