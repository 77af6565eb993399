-- The last test completes the others.
use Rattle.reduction_core.proofs.accepting.fits_board.Goals as goal

pub returns : goal.returns
returns c = (
  λ test.
      record {
        fit = c.fit_back.ensures.0 c.if-not-fit_back.false;
        clear = c.are_clear.ensures.0 c.if-not-are_clear.false;
        nothing_new = c.show_only_known.ensures.0 test;
      },
  λ fits. c.show_only_known.ensures.1 fits.nothing_new,
)
