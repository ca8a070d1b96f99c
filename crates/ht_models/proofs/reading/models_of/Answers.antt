use Rattle.std.proofs.Common.{◌≡◌, ◌∷◌, [], ap, length, map, rules, sym, vec_len, ◌∙◌}
use Rattle.std.specs.Vec.Iter.{into_iter_items}
use Rattle.std.specs.Prelude.{slice_index_or}
use Rattle.std.proofs.lemmas.List.{append-nil, append_assoc, length-map, map-append, nil_from_length}
use Rattle.std.proofs.lemmas.List.Elements.{All-push}
use Rattle.ht_expr.specs.declared.refusal.ExprRefusal.TheVariants as refusal
use Rattle.ht_models.specs.Kinded.{SpeaksOfParts}
use Rattle.ht_models.specs.Reading.{IsModel}
use Rattle.ht_models.specs.Shown.{model_of}
use Rattle.ht_models.proofs.ModelLists.{each_push, first_unreadable, none_unreadable, same_length}
use Rattle.ht_models.proofs.Zips.{zip_push}
use Rattle.ht_models.proofs.reading.models_of.Goals as goal

pub loop-entry-preserved : goal.loop-entry-preserved
loop-entry-preserved c =
    let models = c.loop-entry.models.items in
    let model = model_of c.in-Ok.model in
    let count : vec_len c.loop-entry.models ≡ length models = search rules in
    let place = c.len-place.ensures ∙ count ∙ sym (length-map models model_of) in
    let size = c.in-Ok.ensures.size ∙ c.size.ensures ∙ ap (λ n. slice_index_or c.args.trees.now.sizes n 0) place in
    record {
      next = tt;
      ends = tt;
      all = rw (append_assoc c.loop-entry.yielded (c.in-Some.entry ∷ []), ← c.in-Some.ensures.steps.0) c.loop-entry.invariant.all;
      read =
          rw (c.in_ok-push-in-Ok.ensures.items, map-append)
          (zip_push IsModel c.loop-entry.yielded (map model_of models) c.in-Some.entry model c.loop-entry.invariant.read c.in-Ok.ensures.ok);
      kinds = rw c.in_ok-push-in-Ok.ensures.items (All-push SpeaksOfParts models c.in-Ok.model c.loop-entry.invariant.kinds c.in-Ok.ensures.kinds);
      sizes =
          rw (c.in_ok-push-in-Ok.ensures.items, map-append)
          (each_push (λ place m. m.size ≡ slice_index_or c.args.trees.now.sizes place 0) (map model_of models) model c.loop-entry.invariant.sizes size);
    }

pub returns-in-Err-clause-passes : goal.returns-in-Err-clause-passes
returns-in-Err-clause-passes c =
    let front = c.loop-entry.yielded in
    let models = c.loop-entry.models.items in
    let count : vec_len c.loop-entry.models ≡ length models = search rules in
    let place = sym (c.len-place.ensures ∙ count ∙ sym (same_length front models c.loop-entry.invariant.read)) in
    λ told.
    let some = λ (h : c.in-Err.refusal ≡ refusal.Memory). told (c.refused_at.ensures.memory h) in
    rw (← c.loop-entry.invariant.all, c.in-Some.ensures.steps.0)
    (length front, rw place (c.refused_at.ensures.expression some), first_unreadable front c.in-Some.entry (into_iter_items c.next.new.self) (map model_of models) c.loop-entry.invariant.read (c.in-Err.ensures.refused some))

pub returns-clause-passes : goal.returns-clause-passes
returns-clause-passes c =
    let none : length (into_iter_items c.loop-entry.entry-iterator) ≡ 0 = search rules in
    let all = sym (append-nil c.loop-entry.yielded) ∙ rw (nil_from_length _ none) at c.loop-entry.invariant.all in
    λ place bad. none_unreadable c.loop-entry.yielded (map model_of c.loop-entry.models.items) place c.loop-entry.invariant.read (rw (← all) at bad)
