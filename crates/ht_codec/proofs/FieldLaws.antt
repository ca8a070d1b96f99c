-- What is known of the fields.
use Rattle.std.proofs.Common.{◌≡◌, ℕ, ◌^◌, Bool, true, false, nat_le, ltb, eqb, cond, ◌&&◌, List, ◌++◌, Option, Some, None, Ok, refl, sym, ap, subst, ◌∙◌}
use Rattle.std.specs.Prelude.{ℤ, FitsSigned}
use Rattle.std.specs.Str.{is_utf8}
use Rattle.std.specs.Int.{w16, w32, w64, to_le_bytes, cast_signed, cast_unsigned}
use Rattle.std.proofs.lemmas.Bool.{eqb-true}
use Rattle.std.proofs.lemmas.Int.{to_z-of_z, of_z-to_z}
use Rattle.std.proofs.Math.Facts.{Fits-of_z, sfits_to_z}
use Rattle.ht_base.specs.Moment.{last_moment}
use Rattle.ht_base.specs.Name.{is_name}
use Rattle.ht_base.specs.declared.limits.TheConstants.{LONGEST_NAME, LONGEST_OFFICE_TEXT, LONGEST_PERIOD, LONGEST_TEXT, MOST_NAMES, MOST_PARTS}
use Rattle.ht_base.specs.declared.end.End.{End}
use Rattle.ht_base.specs.declared.end.End.TheVariants as ends
use Rattle.ht_base.specs.declared.retry.Retry.{Retry}
use Rattle.ht_base.specs.declared.role_list.RoleList.{RoleList}
use Rattle.ht_base.specs.declared.role_list.RoleList.TheVariants.{PotentialOwners, ExcludedOwners, Administrators, Stakeholders}
use Rattle.ht_base.specs.declared.scalar.Scalar.{Scalar}
use Rattle.ht_base.specs.declared.scalar.Scalar.TheVariants as scalars
use Rattle.ht_codec.specs.declared.fields.TheConstants.{NO_DEVICE}
use Rattle.ht_codec.specs.Fields.{moment, period, name_length, name, device_of, device_byte, device, retry_number, next_retry, retry_line, retry, text_length, text, some_text, names_count, is_new, new_name, names, some_names, int, truth, scalar_byte, scalar_kind_of, scalar_kind, next_scalar, scalar_line, scalar, parts_count, is_behind, name_behind, last_name, new_part, parts, some_parts, role_byte, role_of, role, priority, end_byte, end_kind_of, end_kind, next_end, end_line, end, opening_length, opening_text}
use Rattle.ht_codec.specs.Forms.{byte, number, flag_of, flag_byte}
use Rattle.ht_codec.specs.Records.{IsBytes}
use Rattle.ht_codec.specs.declared.kinds.EndKind.{EndKind}
use Rattle.ht_codec.specs.declared.kinds.EndKind.TheVariants as end_kinds
use Rattle.ht_codec.specs.declared.kinds.ScalarKind.{ScalarKind}
use Rattle.ht_codec.specs.declared.kinds.ScalarKind.TheVariants.{Text, Int, Truth}
use Rattle.ht_codec.specs.declared.refusal.CodecRefusal.TheVariants.{Memory, Range, Tag}
use Rattle.ht_codec.proofs.Steps.{bind_ok, made_err, ok_is, some_is}
use Rattle.ht_codec.proofs.FormLaws.{IsLawful, nothing_lawful, byte_lawful, number_lawful, wide16, wide32, wide64, tested_lawful, seen_lawful, sized_lawful, then_lawful, coded_lawful, led_lawful, IsLine, IsRead, taken_line, line_read, flag_back, line_back, no_line}
use Rattle.ht_codec.proofs.ListLaws.{AreLawful, listed_lawful}

-- ---- moments and names

pub moment_lawful : IsLawful moment
unfolding moment
moment_lawful = seen_lawful _ _ _ (tested_lawful (λ n. nat_le n last_moment) _ (number_lawful w64 (2 ^ 64) wide64)) (λ n fits. refl) (λ m fits. refl)

pub period_lawful : IsLawful period
unfolding period
period_lawful = tested_lawful (λ n. nat_le n LONGEST_PERIOD) _ (number_lawful w64 (2 ^ 64) wide64)

name_length_lawful : IsLawful name_length
unfolding name_length
name_length_lawful = tested_lawful (λ n. nat_le 1 n && nat_le n LONGEST_NAME) byte byte_lawful

pub name_lawful : IsLawful name
unfolding name
name_lawful = tested_lawful is_name _ (sized_lawful name_length name_length_lawful)

-- ---- the device and the number of a command

device_back : (n : ℕ) (d : Option ℕ) → device_of n ≡ Some d → device_byte d ≡ n
device_back n d = at (ltb n NO_DEVICE) (eqb n NO_DEVICE) refl
  where
    at : (low none : Bool) → eqb n NO_DEVICE ≡ none → cond low (Some (Some n)) (cond none (Some None) None) ≡ Some d → device_byte d ≡ n
    at true none is e = ap device_byte (sym (some_is (Some n) d e))
    at false true is e = ap device_byte (sym (some_is None d e)) ∙ sym (eqb-true n NO_DEVICE is)
    at false false is e = absurd cc

device_lawful : IsLawful device
unfolding device
device_lawful = coded_lawful Range device_of device_byte byte byte_lawful (λ n e. cc) device_back

retry_number_lawful : IsLawful retry_number
unfolding retry_number
retry_number_lawful = tested_lawful (λ n. nat_le 1 n) _ (number_lawful w32 (2 ^ 32) wide32)

retry_heads : (d : Option ℕ) → IsLine retry_line d (next_retry d)
retry_heads None = taken_line retry_line None (λ v. None) _ nothing_lawful (λ v. refl) (λ v f. f) (λ v. refl)
retry_heads (Some d) = taken_line retry_line (Some d) (λ n. Some (record { device = d; number = n })) _ retry_number_lawful (λ v. refl) (λ v f. f) (λ v. refl)

retry_values : (o : Option Retry) → IsRead (next_retry (retry_line o).head) (retry_line o) o
retry_values None = line_read None (λ v. None) _ nothing_lawful tt
retry_values (Some r) = line_read (Some r.device) (λ n. Some (record { device = r.device; number = n })) _ retry_number_lawful r.number

pub retry_lawful : IsLawful retry
unfolding retry
retry_lawful = led_lawful device next_retry retry_line device_lawful retry_heads retry_values

-- ---- texts

text_length_lawful : IsLawful text_length
unfolding text_length
text_length_lawful = tested_lawful (λ n. nat_le n LONGEST_TEXT) _ (number_lawful w16 (2 ^ 16) wide16)

pub text_lawful : IsLawful text
unfolding text
text_lawful = tested_lawful is_utf8 _ (sized_lawful text_length text_length_lawful)

pub some_text_lawful : IsLawful some_text
unfolding some_text
some_text_lawful = tested_lawful _ text text_lawful

opening_length_lawful : IsLawful opening_length
unfolding opening_length
opening_length_lawful = tested_lawful (λ n. nat_le n LONGEST_OFFICE_TEXT) _ (number_lawful w32 (2 ^ 32) wide32)

pub opening_text_lawful : IsLawful opening_text
unfolding opening_text
opening_text_lawful = sized_lawful opening_length opening_length_lawful

-- ---- lists of names

names_count_lawful : IsLawful names_count
unfolding names_count
names_count_lawful = tested_lawful (λ n. nat_le n MOST_NAMES) _ (number_lawful w16 (2 ^ 16) wide16)

pub new_names_lawful : AreLawful new_name
unfolding new_name
new_names_lawful = record { each = λ front. tested_lawful (is_new front) name name_lawful; same = λ front n. refl }

pub names_lawful : IsLawful names
unfolding names
names_lawful = listed_lawful names_count new_name names_count_lawful new_names_lawful

pub some_names_lawful : IsLawful some_names
unfolding some_names
some_names_lawful = tested_lawful _ names names_lawful

-- ---- scalars

pub int_lawful : IsLawful int
unfolding int
int_lawful = record {
  takes = int_takes;
  again = int_again;
  cut = λ whole z front c more fits e. let f = Fits-of_z fits in rw (wide.cut whole (cast_unsigned w64 z) front c more f.fits e) refl;
  fails = λ whole left e are h. wide.fails whole left e are (made_err ((number w64 (2 ^ 64)).read whole left) (λ n. (cast_signed w64 n.0, n.1)) e h);
  failing = λ whole left e h. rw (wide.failing whole left e h) refl;
  told = λ whole left h. wide.told whole left (made_err ((number w64 (2 ^ 64)).read whole left) (λ n. (cast_signed w64 n.0, n.1)) Memory h);
}
  where
    wide : IsLawful (number w64 (2 ^ 64))
    wide = number_lawful w64 (2 ^ 64) wide64

    int_takes : (whole : ℕ) (left : List ℕ) (z : ℤ × List ℕ) → IsBytes left → int.read whole left ≡ Ok z → FitsSigned w64 z.0 × (left ≡ to_le_bytes w64 (cast_unsigned w64 z.0) ++ z.1)
    int_takes whole left z are e =
        let p = bind_ok ((number w64 (2 ^ 64)).read whole left) (λ n. Ok (cast_signed w64 n.0, n.1)) z e in
        let s = wide.takes whole left p.0 are p.1 in
        let back : cast_unsigned w64 (cast_signed w64 p.0.0) ≡ p.0.0 = of_z-to_z w64 p.0.0 s.0 in
        subst (λ (y : ℤ × List ℕ). FitsSigned w64 y.0 × (left ≡ to_le_bytes w64 (cast_unsigned w64 y.0) ++ y.1)) (ok_is (cast_signed w64 p.0.0, p.0.1) z p.2) (sfits_to_z (record { fits = s.0 }), s.1 ∙ ap (λ (k : ℕ). to_le_bytes w64 k ++ p.0.1) (sym back))

    int_again : (whole : ℕ) (z : ℤ) (rest : List ℕ) → FitsSigned w64 z → int.read whole (to_le_bytes w64 (cast_unsigned w64 z) ++ rest) ≡ Ok (z, rest)
    int_again whole z rest fits =
        let f = Fits-of_z fits in
        rw (wide.again whole (cast_unsigned w64 z) rest f.fits, to_z-of_z w64 z fits) refl

truth_lawful : IsLawful truth
unfolding truth
truth_lawful = coded_lawful Range flag_of flag_byte byte byte_lawful (λ n e. cc) flag_back

scalar_back : (n : ℕ) (k : ScalarKind) → scalar_kind_of n ≡ Some k → scalar_byte k ≡ n
scalar_back n k = line_back scalar_byte n 0 Text k _ refl (line_back scalar_byte n 1 Int k _ refl (line_back scalar_byte n 2 Truth k _ refl (no_line scalar_byte n k)))

scalar_kind_lawful : IsLawful scalar_kind
unfolding scalar_kind
scalar_kind_lawful = coded_lawful Tag scalar_kind_of scalar_byte byte byte_lawful (λ n e. cc) scalar_back

scalar_heads : (k : ScalarKind) → IsLine scalar_line k (next_scalar k)
scalar_heads Text = taken_line scalar_line Text (λ v. scalars.Text v) _ text_lawful (λ v. refl) (λ v f. f) (λ v. refl)
scalar_heads Int = taken_line scalar_line Int (λ v. scalars.Int v) _ int_lawful (λ v. refl) (λ v f. f) (λ v. refl)
scalar_heads Truth = taken_line scalar_line Truth (λ v. scalars.Truth v) _ truth_lawful (λ v. refl) (λ v f. f) (λ v. refl)

scalar_values : (v : Scalar) → IsRead (next_scalar (scalar_line v).head) (scalar_line v) v
scalar_values (scalars.Text t) = line_read Text (λ v. scalars.Text v) _ text_lawful t
scalar_values (scalars.Int z) = line_read Int (λ v. scalars.Int v) _ int_lawful z
scalar_values (scalars.Truth b) = line_read Truth (λ v. scalars.Truth v) _ truth_lawful b

pub scalar_lawful : IsLawful scalar
unfolding scalar
scalar_lawful = led_lawful scalar_kind next_scalar scalar_line scalar_kind_lawful scalar_heads scalar_values

-- ---- parts

parts_count_lawful : IsLawful parts_count
unfolding parts_count
parts_count_lawful = tested_lawful (λ n. nat_le n MOST_PARTS) byte byte_lawful

name_behind_lawful : (last : Option (List ℕ)) → IsLawful (name_behind last)
unfolding name_behind
name_behind_lawful last = tested_lawful (is_behind last) name name_lawful

pub new_parts_lawful : AreLawful new_part
unfolding name_behind
new_parts_lawful = record { each = λ front. then_lawful (name_behind (last_name front)) scalar (name_behind_lawful (last_name front)) scalar_lawful; same = λ front x. refl }

pub parts_lawful : IsLawful parts
unfolding parts
parts_lawful = listed_lawful parts_count new_part parts_count_lawful new_parts_lawful

pub some_parts_lawful : IsLawful some_parts
unfolding some_parts
some_parts_lawful = tested_lawful _ parts parts_lawful

-- ---- the list of a role, a priority, and the end of a suspension

role_back : (n : ℕ) (r : RoleList) → role_of n ≡ Some r → role_byte r ≡ n
role_back n r = line_back role_byte n 0 PotentialOwners r _ refl (line_back role_byte n 1 ExcludedOwners r _ refl (line_back role_byte n 2 Administrators r _ refl (line_back role_byte n 3 Stakeholders r _ refl (no_line role_byte n r))))

pub role_lawful : IsLawful role
unfolding role
role_lawful = coded_lawful Range role_of role_byte byte byte_lawful (λ n e. cc) role_back

pub priority_lawful : IsLawful priority
unfolding priority
priority_lawful = tested_lawful _ byte byte_lawful

end_back : (n : ℕ) (k : EndKind) → end_kind_of n ≡ Some k → end_byte k ≡ n
end_back n k = line_back end_byte n 0 end_kinds.At k _ refl (line_back end_byte n 1 end_kinds.After k _ refl (no_line end_byte n k))

end_kind_lawful : IsLawful end_kind
unfolding end_kind
end_kind_lawful = coded_lawful Tag end_kind_of end_byte byte byte_lawful (λ n e. cc) end_back

end_heads : (k : EndKind) → IsLine end_line k (next_end k)
end_heads end_kinds.At = taken_line end_line end_kinds.At (λ v. ends.At v) _ moment_lawful (λ v. refl) (λ v f. f) (λ v. refl)
end_heads end_kinds.After = taken_line end_line end_kinds.After (λ v. ends.After v) _ period_lawful (λ v. refl) (λ v f. f) (λ v. refl)

end_values : (v : End) → IsRead (next_end (end_line v).head) (end_line v) v
end_values (ends.At m) = line_read end_kinds.At (λ v. ends.At v) _ moment_lawful m
end_values (ends.After n) = line_read end_kinds.After (λ v. ends.After v) _ period_lawful n

pub end_lawful : IsLawful end
unfolding end
end_lawful = led_lawful end_kind next_end end_line end_kind_lawful end_heads end_values
