-- Words that a worked value names.
use Rattle.std.specs.Prelude.{codes}
use Rattle.idx_rowmajor.specs.declared.layout.Layout.TheVariants.{Hz}
use Rattle.idx_words.specs.ConvertValue.{ConvertValue}

-- the words of a small dataset
abbrev pub small_words : ConvertValue
small_words =
    record {
      extent = codes "0 3 0 3";
      fields = codes "a uint8";
      mask = codes "V0101";
      bits = codes "2";
      per_file = codes "2";
      template = codes "./%01x.bin";
      time = codes "0 9 time%04d/";
      step = 0;
      ranks = 1;
      layout = Hz;
    }
