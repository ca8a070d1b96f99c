use Rattle.std.proofs.Common.{◌^◌, length, subst}
use Rattle.std.specs.Int.{w16}
use Rattle.std.specs.List.{All}
use Rattle.std.proofs.lemmas.List.{take_all}
use Rattle.std.proofs.lemmas.List.Elements.{All-more}
use Rattle.ht_codec.specs.Fields.{name}
use Rattle.ht_codec.specs.Forms.{number}
use Rattle.ht_codec.proofs.Ranges.{names_fits}
use Rattle.ht_codec.proofs.Written.{written_more}
use Rattle.ht_codec.proofs.writing_fields.write_names.Goals as goal

pub loop-name-preserved : goal.loop-name-preserved
loop-name-preserved c =
    let xs = c.as_slice-names.result.now in
    record {
      bytes = written_more name.text c.args.out.now.items ((number w16 (2 ^ 16)).text (length xs)) xs c.loop-name.name-index c.name-item.result c.loop-name.out.items _ c.loop-name-test.true c.name-item.is c.loop-name.invariant.bytes c.in_ok-write_name.ensures.bytes;
      fit = All-more name.Fits xs c.loop-name.name-index c.name-item.result c.loop-name-test.true c.loop-name.invariant.fit (subst name.Fits c.name-item.is c.in_ok-write_name.ensures.fits);
    }

pub returns-clause-fits : goal.returns-clause-fits
returns-clause-fits c =
    let xs = c.as_slice-names.result.now in
    let all : All name.Fits xs = subst (All name.Fits) (take_all c.loop-name.name-index xs c.loop-name-test.false) c.loop-name.invariant.fit in
    names_fits c.args.value.now c.requires (subst (All name.Fits) c.as_slice-names.ensures all)
