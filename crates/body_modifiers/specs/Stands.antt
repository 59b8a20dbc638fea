-- Where a modifier stands, as its meaning has it.
use Rattle.body_means.specs.Modified as of_modifiers
use Rattle.body_modifiers.specs.declared.modified.Standing.{Standing}

abbrev pub standing_of : Standing → of_modifiers.Standing
standing_of s = record { wrapped = s.wrapped; number = s.number; decoration = s.decoration }
