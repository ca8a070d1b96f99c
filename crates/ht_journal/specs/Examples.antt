-- Worked examples of the definitions. A wrong reading of one fails the check.
use Rattle.std.specs.Prelude.{◌≡◌, [], ◌∷◌, ◌++◌, replicate, Ok, Err, None, Some, refl}
use Rattle.ht_journal.specs.Ahead.{far, reached}
use Rattle.ht_journal.specs.Files.{header, length_bytes, length_at, bodies_from, contents, journal_length}

-- a file of nine bytes has no body, whatever it holds
nine_bytes : contents (header ++ 1 ∷ []) ≡ Ok []
unfolding contents bodies_from
nine_bytes = refl

ten_bytes_of_something_else : contents (replicate 10 72) ≡ Err 0
unfolding contents bodies_from
ten_bytes_of_something_else = refl

another_last_byte_of_the_header : contents (0x48 ∷ 0x54 ∷ 0x4a ∷ 0x31 ∷ 0x0d ∷ 0x0a ∷ 0x1a ∷ 0x0d ∷ 0 ∷ 0 ∷ []) ≡ Err 0
unfolding contents bodies_from
another_last_byte_of_the_header = refl

-- what follows a closed gate has no meaning, and each gate is closed that doesn't hold 1
a_closed_gate : contents (header ++ 0 ∷ 1 ∷ 255 ∷ []) ≡ Ok []
unfolding contents bodies_from
a_closed_gate = refl

a_gate_of_two : contents (header ++ 2 ∷ 1 ∷ 0 ∷ 0 ∷ 0 ∷ 7 ∷ 0 ∷ []) ≡ Ok []
unfolding contents bodies_from
a_gate_of_two = refl

one_body : contents (header ++ 1 ∷ 1 ∷ 0 ∷ 0 ∷ 0 ∷ 7 ∷ 0 ∷ []) ≡ Ok ((7 ∷ []) ∷ [])
unfolding contents bodies_from length_at
one_body = refl

-- a body may be empty, and one may hold what looks like a gate
two_bodies : contents (header ++ 1 ∷ 0 ∷ 0 ∷ 0 ∷ 0 ∷ 1 ∷ 2 ∷ 0 ∷ 0 ∷ 0 ∷ 1 ∷ 0 ∷ 0 ∷ 9 ∷ []) ≡ Ok ([] ∷ (1 ∷ 0 ∷ []) ∷ [])
unfolding contents bodies_from length_at
two_bodies = refl

-- damage is told at the open gate before it
an_open_gate_at_the_end : contents (header ++ 1 ∷ 1 ∷ 0 ∷ 0 ∷ 0 ∷ 7 ∷ 1 ∷ []) ≡ Err 14
unfolding contents bodies_from length_at
an_open_gate_at_the_end = refl

no_gate_behind_a_body : contents (header ++ 1 ∷ 1 ∷ 0 ∷ 0 ∷ 0 ∷ 7 ∷ []) ≡ Err 8
unfolding contents bodies_from length_at
no_gate_behind_a_body = refl

a_length_that_is_cut : contents (header ++ 1 ∷ 0 ∷ 0 ∷ 0 ∷ []) ≡ Err 8
unfolding contents bodies_from length_at
a_length_that_is_cut = refl

a_length_of_1048577 : contents (header ++ 1 ∷ 1 ∷ 0 ∷ 16 ∷ 0 ∷ replicate 9 0) ≡ Err 8
unfolding contents bodies_from length_at
a_length_of_1048577 = refl

the_lowest_byte_first : length_bytes 66051 ≡ 3 ∷ 2 ∷ 1 ∷ 0 ∷ []
unfolding length_bytes
the_lowest_byte_first = refl

the_length_of_a_new_journal : journal_length [] ≡ 9
the_length_of_a_new_journal = refl

one_body_of_26_bytes : journal_length (replicate 26 0 ∷ []) ≡ 40
one_body_of_26_bytes = refl

one_body_of_437_bytes : journal_length (replicate 437 0 ∷ []) ≡ 451
one_body_of_437_bytes = refl

-- a file is lengthened by 64 KiB more than a body needs, and not for those that stay within that
the_first_body_ahead : far (Some 0) 4000000 15 ≡ 65551
the_first_body_ahead = refl

reached_for_the_first : reached (Some 0) 4000000 15 ≡ Some 65551
reached_for_the_first = refl

a_body_that_ends_where_the_file_does : far (Some 65551) 4000000 65551 ≡ 0
a_body_that_ends_where_the_file_does = refl

a_body_that_ends_behind : far (Some 65551) 4000000 65552 ≡ 131088
a_body_that_ends_behind = refl

-- never past the limit
ahead_to_the_limit : far (Some 0) 1000 15 ≡ 1000
ahead_to_the_limit = refl

not_ahead : far None 4000000 15 ≡ 0
not_ahead = refl
