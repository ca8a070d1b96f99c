use Rattle.std.proofs.Common.{◌≡◌, ◌∷◌, ◌++◌, [], append_assoc, length, subst, sym, ap, ◌∙◌, true, ℕ, List}
use Rattle.std.specs.List.{All}
use Rattle.std.proofs.lemmas.List.{take_all}
use Rattle.std.proofs.lemmas.List.Elements.{All-more}
use Rattle.ht_base.specs.Events.{is_short}
use Rattle.ht_base.specs.declared.limits.TheConstants.{LONGEST_TEXT}
use Rattle.ht_base.specs.declared.scalar.Scalar.{Scalar}
use Rattle.ht_codec.specs.Fields.{name, scalar}
use Rattle.ht_codec.proofs.Distinct.{PartFits, are_short, short_at}
use Rattle.ht_codec.proofs.Ranges.{parts_fits}
use Rattle.ht_codec.proofs.Written.{written_more}
use Rattle.ht_codec.proofs.writing_fields.write_parts.Goals as goal

pub write_scalar-requires : goal.write_scalar-requires
write_scalar-requires c =
    let xs = c.as_slice-parts.result.now in
    let short = short_at xs c.loop-name.name-index c.loop-name-item.result c.loop-name-test.true (are_short c.args.value.now xs c.as_slice-parts.ensures.value c.requires) in
    subst (λ (v : List ℕ × Scalar). is_short LONGEST_TEXT ([], v.1) ≡ true) (sym c.loop-name-item.is) short

pub loop-name-preserved : goal.loop-name-preserved
loop-name-preserved c =
    let xs = c.as_slice-parts.result.now in
    let x : List ℕ × Scalar = c.loop-name-item.result in
    let fit : PartFits x = (c.in_ok-write_name.ensures.fits, c.in_ok-write_scalar.ensures.fits) in
    let both : c.write_scalar.new.out.items ≡ c.loop-name.out.items ++ (name.text x.0 ++ scalar.text x.1) = c.in_ok-write_scalar.ensures.bytes ∙ ap (λ (l : List ℕ). l ++ scalar.text x.1) c.in_ok-write_name.ensures.bytes ∙ append_assoc c.loop-name.out.items (name.text x.0) (scalar.text x.1) in
    record {
      bytes = written_more (λ (v : List ℕ × Scalar). name.text v.0 ++ scalar.text v.1) c.args.out.now.items (length xs ∷ []) xs c.loop-name.name-index x c.loop-name.out.items _ c.loop-name-test.true c.loop-name-item.is c.loop-name.invariant.bytes both;
      fit = All-more PartFits xs c.loop-name.name-index x c.loop-name-test.true c.loop-name.invariant.fit (subst PartFits c.loop-name-item.is fit);
    }

pub returns-clause-fits : goal.returns-clause-fits
returns-clause-fits c =
    let xs = c.as_slice-parts.result.now in
    let all : All PartFits xs = subst (All PartFits) (take_all c.loop-name.name-index xs c.loop-name-test.false) c.loop-name.invariant.fit in
    parts_fits c.args.value.now c.requires c.as_slice-parts.ensures.ascend (subst (All PartFits) c.as_slice-parts.ensures.value all)
