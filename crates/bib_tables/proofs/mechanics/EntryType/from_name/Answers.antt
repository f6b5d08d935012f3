use Rattle.std.proofs.Common.{◌≡◌, ℕ, List, sym, ap}
use Rattle.bib_text.proofs.EnumFacts.{named_none}
use Rattle.bib_tables.specs.EntryType.{entry_type_named, type_names}
use Rattle.bib_tables.proofs.mechanics.EntryType.from_name.Goals as goal

-- equal texts are names of the same type, or of none
the_same : {text name : List ℕ} → text ≡ name → entry_type_named name ≡ entry_type_named text
the_same is = ap entry_type_named (sym is)

pub returns-in_default : goal.returns-in_default
unfolding entry_type_named
returns-in_default c =
    sym (named_none type_names c.args.name.now (
      c.in_default.not-article,
      (
        c.in_default.not-book,
        (
          c.in_default.not-booklet,
          (
            c.in_default.not-inbook,
            (
              c.in_default.not-incollection,
              (
                c.in_default.not-inproceedings,
                (
                  c.in_default.not-manual,
                  (
                    c.in_default.not-mastersthesis,
                    (
                      c.in_default.not-phdthesis,
                      (
                        c.in_default.not-misc,
                        (
                          c.in_default.not-proceedings,
                          (
                            c.in_default.not-techreport,
                            (
                              c.in_default.not-unpublished,
                              (
                                c.in_default.not-mvbook,
                                (
                                  c.in_default.not-bookinbook,
                                  (
                                    c.in_default.not-suppbook,
                                    (
                                      c.in_default.not-periodical,
                                      (
                                        c.in_default.not-suppperiodical,
                                        (
                                          c.in_default.not-collection,
                                          (
                                            c.in_default.not-mvcollection,
                                            (
                                              c.in_default.not-suppcollection,
                                              (
                                                c.in_default.not-reference,
                                                (
                                                  c.in_default.not-mvreference,
                                                  (
                                                    c.in_default.not-inreference,
                                                    (
                                                      c.in_default.not-mvproceedings,
                                                      (
                                                        c.in_default.not-report,
                                                        (
                                                          c.in_default.not-patent,
                                                          (
                                                            c.in_default.not-thesis,
                                                            (
                                                              c.in_default.not-online,
                                                              (
                                                                c.in_default.not-software,
                                                                (
                                                                  c.in_default.not-dataset,
                                                                  (
                                                                    c.in_default.not-set,
                                                                    (
                                                                      c.in_default.not-xdata,
                                                                      tt,
                                                                    ),
                                                                  ),
                                                                ),
                                                              ),
                                                            ),
                                                          ),
                                                        ),
                                                      ),
                                                    ),
                                                  ),
                                                ),
                                              ),
                                            ),
                                          ),
                                        ),
                                      ),
                                    ),
                                  ),
                                ),
                              ),
                            ),
                          ),
                        ),
                      ),
                    ),
                  ),
                ),
              ),
            ),
          ),
        ),
      ),
    ))

pub returns-in-article : goal.returns-in-article
unfolding entry_type_named
returns-in-article c = the_same c.in-article.is

pub returns-in-book : goal.returns-in-book
unfolding entry_type_named
returns-in-book c = the_same c.in-book.is

pub returns-in-booklet : goal.returns-in-booklet
unfolding entry_type_named
returns-in-booklet c = the_same c.in-booklet.is

pub returns-in-inbook : goal.returns-in-inbook
unfolding entry_type_named
returns-in-inbook c = the_same c.in-inbook.is

pub returns-in-incollection : goal.returns-in-incollection
unfolding entry_type_named
returns-in-incollection c = the_same c.in-incollection.is

pub returns-in-inproceedings : goal.returns-in-inproceedings
unfolding entry_type_named
returns-in-inproceedings c = the_same c.in-inproceedings.is

pub returns-in-manual : goal.returns-in-manual
unfolding entry_type_named
returns-in-manual c = the_same c.in-manual.is

pub returns-in-mastersthesis : goal.returns-in-mastersthesis
unfolding entry_type_named
returns-in-mastersthesis c = the_same c.in-mastersthesis.is

pub returns-in-phdthesis : goal.returns-in-phdthesis
unfolding entry_type_named
returns-in-phdthesis c = the_same c.in-phdthesis.is

pub returns-in-misc : goal.returns-in-misc
unfolding entry_type_named
returns-in-misc c = the_same c.in-misc.is

pub returns-in-proceedings : goal.returns-in-proceedings
unfolding entry_type_named
returns-in-proceedings c = the_same c.in-proceedings.is

pub returns-in-techreport : goal.returns-in-techreport
unfolding entry_type_named
returns-in-techreport c = the_same c.in-techreport.is

pub returns-in-unpublished : goal.returns-in-unpublished
unfolding entry_type_named
returns-in-unpublished c = the_same c.in-unpublished.is

pub returns-in-mvbook : goal.returns-in-mvbook
unfolding entry_type_named
returns-in-mvbook c = the_same c.in-mvbook.is

pub returns-in-bookinbook : goal.returns-in-bookinbook
unfolding entry_type_named
returns-in-bookinbook c = the_same c.in-bookinbook.is

pub returns-in-suppbook : goal.returns-in-suppbook
unfolding entry_type_named
returns-in-suppbook c = the_same c.in-suppbook.is

pub returns-in-periodical : goal.returns-in-periodical
unfolding entry_type_named
returns-in-periodical c = the_same c.in-periodical.is

pub returns-in-suppperiodical : goal.returns-in-suppperiodical
unfolding entry_type_named
returns-in-suppperiodical c = the_same c.in-suppperiodical.is

pub returns-in-collection : goal.returns-in-collection
unfolding entry_type_named
returns-in-collection c = the_same c.in-collection.is

pub returns-in-mvcollection : goal.returns-in-mvcollection
unfolding entry_type_named
returns-in-mvcollection c = the_same c.in-mvcollection.is

pub returns-in-suppcollection : goal.returns-in-suppcollection
unfolding entry_type_named
returns-in-suppcollection c = the_same c.in-suppcollection.is

pub returns-in-reference : goal.returns-in-reference
unfolding entry_type_named
returns-in-reference c = the_same c.in-reference.is

pub returns-in-mvreference : goal.returns-in-mvreference
unfolding entry_type_named
returns-in-mvreference c = the_same c.in-mvreference.is

pub returns-in-inreference : goal.returns-in-inreference
unfolding entry_type_named
returns-in-inreference c = the_same c.in-inreference.is

pub returns-in-mvproceedings : goal.returns-in-mvproceedings
unfolding entry_type_named
returns-in-mvproceedings c = the_same c.in-mvproceedings.is

pub returns-in-report : goal.returns-in-report
unfolding entry_type_named
returns-in-report c = the_same c.in-report.is

pub returns-in-patent : goal.returns-in-patent
unfolding entry_type_named
returns-in-patent c = the_same c.in-patent.is

pub returns-in-thesis : goal.returns-in-thesis
unfolding entry_type_named
returns-in-thesis c = the_same c.in-thesis.is

pub returns-in-online : goal.returns-in-online
unfolding entry_type_named
returns-in-online c = the_same c.in-online.is

pub returns-in-software : goal.returns-in-software
unfolding entry_type_named
returns-in-software c = the_same c.in-software.is

pub returns-in-dataset : goal.returns-in-dataset
unfolding entry_type_named
returns-in-dataset c = the_same c.in-dataset.is

pub returns-in-set : goal.returns-in-set
unfolding entry_type_named
returns-in-set c = the_same c.in-set.is

pub returns-in-xdata : goal.returns-in-xdata
unfolding entry_type_named
returns-in-xdata c = the_same c.in-xdata.is
