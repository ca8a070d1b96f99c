-- When a suspension ends by itself.
use Rattle.ht_base.specs.declared.end.End.{End}
use Rattle.ht_base.specs.declared.end.End.TheVariants.{After, At}
use Rattle.ht_base.specs.declared.moment.Moment.{Moment}
use Rattle.ht_base.specs.Moment.{later_by}

-- of one that begins at a moment
abbrev pub end_at : Moment → End → Moment
end_at at (At m) = m
end_at at (After period) = later_by at period
