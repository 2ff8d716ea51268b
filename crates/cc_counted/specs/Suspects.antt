-- THE BUFFER OF A COUNTED HEAP READ BY NUMBERS.
use Rattle.std.specs.Prelude.{ℕ, Bool, true, false, ◌==◌, List, [], ◌∷◌, Option}
use Rattle.cc_lists.specs.Walks.{first_key, next_key}
use Rattle.cc_model.specs.Heap.{Buffered}

-- whether native k stands in the buffer
abbrev pub is_in_buffer : List Buffered → ℕ → Bool
is_in_buffer [] k = false
is_in_buffer (b ∷ bs) k = elim (b.number == k) [ true ↦ true | false ↦ is_in_buffer bs k ]

-- whether it has the purple mark there
abbrev pub is_purple_in : List Buffered → ℕ → Bool
is_purple_in [] k = false
is_purple_in (b ∷ bs) k = elim (b.number == k) [ true ↦ b.purple | false ↦ is_purple_in bs k ]

-- the number in front
abbrev pub front_number : List Buffered → Option ℕ
front_number buffer = first_key (λ b. b.number) buffer

-- the number behind k, in buffer order
abbrev pub number_behind : List Buffered → ℕ → Option ℕ
number_behind buffer k = next_key (λ b. b.number) buffer k
