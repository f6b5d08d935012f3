use Rattle.std.proofs.Common.{sym}
use Rattle.edit_resolve.specs.Inheritance.{never_by_crossref}
use Rattle.edit_resolve.proofs.ListFacts.{one_of_none}
use Rattle.edit_resolve.proofs.inheritance.is_never_by_crossref.Goals as goal

pub returns-in_default : goal.returns-in_default
returns-in_default c =
    sym (one_of_none never_by_crossref c.args.name.now (
      c.in_default.not-ids,
      (
        c.in_default.not-crossref,
        (
          c.in_default.not-xref,
          (
            c.in_default.not-xdata,
            (
              c.in_default.not-entryset,
              (
                c.in_default.not-entrysubtype,
                (
                  c.in_default.not-execute,
                  (
                    c.in_default.not-label,
                    (
                      c.in_default.not-options,
                      (
                        c.in_default.not-presort,
                        (
                          c.in_default.not-related,
                          (
                            c.in_default.not-relatedoptions,
                            (
                              c.in_default.not-relatedstring,
                              (
                                c.in_default.not-relatedtype,
                                (c.in_default.not-shorthand, (c.in_default.not-shorthandintro, (c.in_default.not-sortkey, tt))),
                              ),
                            ),
                          ),
                        ),
                      ),
                    ),
                  ),
                ),
              ),
            ),
          ),
        ),
      ),
    ))
