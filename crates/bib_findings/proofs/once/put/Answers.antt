use Rattle.bib_findings.proofs.CountedFacts.{put_is}
use Rattle.bib_findings.proofs.once.put.Goals as goal

pub returns : goal.returns
returns c =
    put_is c.args.counted.now.items c.push.new.self.items c.swap_remove.new.self.items c.args.index c.args.one c.swap_remove.result
    c.requires c.in_ok-push.ensures.items c.swap_remove.ensures.items
