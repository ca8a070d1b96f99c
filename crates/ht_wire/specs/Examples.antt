-- Worked examples of the definitions. A wrong reading of one fails the check.
use Rattle.std.specs.Prelude.{◌≡◌, refl, ◌∷◌, [], Some, None, Ok, Err, codes, true, false}
use Rattle.std.specs.Fmt.{digits}
use Rattle.ht_wire.specs.Bodies.{announced}
use Rattle.ht_wire.specs.Fields.{person_of, is_last}
use Rattle.ht_wire.specs.Replies.{phrase_of, reply_head, reply_bytes}

one_person : person_of ((codes "Host", codes "a") ∷ (codes "X-Person", codes "p3") ∷ []) ≡ Some (codes "p3")
one_person = refl

the_same_person_twice : person_of ((codes "x-person", codes "p3") ∷ (codes "x-person", codes "p3") ∷ []) ≡ None
the_same_person_twice = refl

no_name : person_of ((codes "x-person", codes "p 3") ∷ []) ≡ None
no_name = refl

no_person : person_of ((codes "person", codes "p3") ∷ []) ≡ None
no_person = refl

close_in_any_case : is_last 1 ((codes "CONNECTION", codes "Close") ∷ []) ≡ true
close_in_any_case = refl

the_second_connection_field : is_last 1 ((codes "connection", codes "keep-alive") ∷ (codes "connection", codes "close") ∷ []) ≡ true
the_second_connection_field = refl

a_list_is_not_close : is_last 1 ((codes "connection", codes "keep-alive, close") ∷ []) ≡ false
a_list_is_not_close = refl

the_older_version : is_last 0 [] ≡ true
the_older_version = refl

no_length : announced ((codes "Host", codes "a") ∷ []) ≡ Ok 0
no_length = refl

a_length : announced ((codes "Content-Length", codes "0000000005") ∷ []) ≡ Ok 5
a_length = refl

one_length_twice : announced ((codes "content-length", codes "5") ∷ (codes "a", codes "6") ∷ (codes "Content-Length", codes "5") ∷ []) ≡ Ok 5
one_length_twice = refl

one_number_spelled_twice : announced ((codes "content-length", codes "5") ∷ (codes "content-length", codes "05") ∷ []) ≡ Err 400
one_number_spelled_twice = refl

eleven_digits : announced ((codes "content-length", codes "00000000005") ∷ []) ≡ Err 400
eleven_digits = refl

a_sign : announced ((codes "content-length", codes "+5") ∷ []) ≡ Err 400
a_sign = refl

an_empty_length : announced ((codes "content-length", []) ∷ []) ≡ Err 400
an_empty_length = refl

the_longest_body : announced ((codes "content-length", codes "1048576") ∷ []) ≡ Ok 1048576
the_longest_body = refl

too_long_a_body : announced ((codes "content-length", codes "1048577") ∷ []) ≡ Err 413
too_long_a_body = refl

lengths_that_differ_before_one_too_long : announced ((codes "content-length", codes "1048577") ∷ (codes "content-length", codes "5") ∷ []) ≡ Err 400
lengths_that_differ_before_one_too_long = refl

a_coding_before_a_length : announced ((codes "content-length", codes "1048577") ∷ (codes "Transfer-Encoding", codes "identity") ∷ []) ≡ Err 501
a_coding_before_a_length = refl

a_reply : reply_bytes 200 (codes "{}") false ≡ codes "HTTP/1.1 200 OK\r\ncontent-type: application/json\r\ncontent-length: 2\r\n\r\n{}"
unfolding reply_head phrase_of digits
a_reply = refl

the_last_reply : reply_bytes 507 [] true ≡ codes "HTTP/1.1 507 Insufficient Storage\r\ncontent-type: application/json\r\ncontent-length: 0\r\nconnection: close\r\n\r\n"
unfolding reply_head phrase_of digits
the_last_reply = refl
