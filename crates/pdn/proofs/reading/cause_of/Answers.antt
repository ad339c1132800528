use Rattle.pdn.proofs.ReadingLemmas.{short-fits, ShortFits-SomeFits}
use Rattle.pdn.proofs.reading.cause_of.Goals as goal

pub returns-then-some_fits : goal.returns-then-some_fits
returns-then-some_fits c = (
  c.requires,
  short-fits c.args.position.now c.args.from c.args.middle.now c.args.to c.requires
      (c.some_fits.ensures.0 c.if-some_fits.true),
)

pub returns : goal.returns
returns c = (
  c.requires,
  λ w. let found = c.some_fits.ensures.1
      (ShortFits-SomeFits c.args.position.now c.args.from c.args.middle.now c.args.to w) in
      let none = c.if-some_fits.false in cc,
)
