-- Two requests that stand one behind another, of which the first has a body and the second closes the
-- connection. A wrong reading of a definition fails the check.
use Rattle.std.specs.Prelude.{refl, ℕ, ◌≤◌, All, Bool, List, [], ◌∷◌, ◌++◌, Option, Some, None, codes, false, true}
use Rattle.std.proofs.Common.{lit≤, lit<, sym, true≢false}
use Rattle.std.proofs.lemmas.List.Elements.{All-nil, All-cons}
use Rattle.std.proofs.lemmas.List.Sums.{AllPass-from_list_all}
use Rattle.std.proofs.lemmas.Str.{IsUtf8-from_is_utf8}
use Rattle.std.specs.Str.{chars, is_utf8}
use Rattle.httparse.specs.Grammar.{Field, IsField, IsRequestHead, RequestHead, crlf, is_token_byte, is_uri_byte, is_value_byte, print_request, trim_ows}
use Rattle.ht_wire.specs.Requests.{AreRequests, IsRequest}
use Rattle.ht_wire.specs.declared.request.Request.{Request}

abbrev pub first_bytes : List ℕ
first_bytes = codes "POST /tasks HTTP/1.1\r\ncontent-length: 2\r\n\r\n{}"

abbrev pub second_bytes : List ℕ
second_bytes = codes "POST /tasks HTTP/1.0\r\nx-person: p3\r\n\r\n"

abbrev pub asked : Option (List ℕ) → Bool → List ℕ → Request
asked person last body = record { method = codes "POST"; target = record { items = codes "/tasks"; spare = 0 }; person = person; last = last; body = record { items = body; spare = 0 } }

abbrev pub first : Request
first = asked None false (codes "{}")

abbrev pub second : Request
second = asked (Some (codes "p3")) true []

abbrev head_of : ℕ → List Field → RequestHead
head_of minor fields = record { blank = []; method = codes "POST"; target = codes "/tasks"; minor = minor; line_end = crlf; fields = fields; last = crlf }

is_head : (minor : ℕ) (fields : List Field) → minor ≤ 1 → All IsField fields → IsRequestHead (head_of minor fields)
unfolding is_token_byte is_utf8 chars lib.Utf8.encode
is_head minor fields known valid = record {
  method = (lit< tt, AllPass-from_list_all is_token_byte (codes "POST") refl);
  target = (lit< tt, AllPass-from_list_all is_uri_byte (codes "/tasks") refl);
  target_text = IsUtf8-from_is_utf8 (codes "/tasks") refl;
  minor = known;
  fields = valid;
}

abbrev length_field : Field
length_field = record { name = codes "content-length"; raw = codes " 2"; end = crlf }

is_length_field : IsField length_field
unfolding is_token_byte
is_length_field = record {
  name = (lit< tt, AllPass-from_list_all is_token_byte (codes "content-length") refl);
  raw = AllPass-from_list_all is_value_byte (codes " 2") refl;
}

abbrev person_field : Field
person_field = record { name = codes "x-person"; raw = codes " p3"; end = crlf }

is_person_field : IsField person_field
unfolding is_token_byte
is_person_field = record {
  name = (lit< tt, AllPass-from_list_all is_token_byte (codes "x-person") refl);
  raw = AllPass-from_list_all is_value_byte (codes " p3") refl;
}

the_first_stands : IsRequest (first_bytes ++ second_bytes) first second_bytes
unfolding print_request trim_ows
the_first_stands = record {
  head = head_of 1 (length_field ∷ []);
  stands = record { reads = (is_head 1 (length_field ∷ []) (lit≤ tt) (All-cons IsField length_field [] is_length_field (All-nil IsField)), refl); short = lit≤ tt; few = lit≤ tt };
  sized = refl;
  carries = record { method_is = refl; target_is = refl; person_is = refl; last_is = refl };
}

the_second_stands : IsRequest second_bytes second []
unfolding print_request trim_ows
the_second_stands = record {
  head = head_of 0 (person_field ∷ []);
  stands = record { reads = (is_head 0 (person_field ∷ []) (lit≤ tt) (All-cons IsField person_field [] is_person_field (All-nil IsField)), refl); short = lit≤ tt; few = lit≤ tt };
  sized = refl;
  carries = record { method_is = refl; target_is = refl; person_is = refl; last_is = refl };
}

pub both_stand : AreRequests (first_bytes ++ second_bytes) (first ∷ second ∷ []) []
both_stand = (second_bytes, the_first_stands, (λ last. absurd (true≢false (sym last))), ([], the_second_stands, (λ last. refl), refl))
