mod ArgumentFacts
mod AskedFacts
mod EditsAskedFacts
mod MessageFacts
