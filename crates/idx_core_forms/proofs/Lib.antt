mod StepLemmas
mod BlockLemmas
