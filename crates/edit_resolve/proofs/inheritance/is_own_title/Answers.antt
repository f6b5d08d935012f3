use Rattle.std.proofs.Common.{sym}
use Rattle.edit_resolve.specs.Inheritance.{own_titles}
use Rattle.edit_resolve.proofs.ListFacts.{one_of_none}
use Rattle.edit_resolve.proofs.inheritance.is_own_title.Goals as goal

pub returns-in_default : goal.returns-in_default
returns-in_default c =
    sym (one_of_none own_titles c.args.name.now (
      c.in_default.not-title,
      (
        c.in_default.not-subtitle,
        (
          c.in_default.not-titleaddon,
          (c.in_default.not-shorttitle, (c.in_default.not-sorttitle, (c.in_default.not-indextitle, (c.in_default.not-indexsorttitle, tt)))),
        ),
      ),
    ))
