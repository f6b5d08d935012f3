mod Answers
mod ReportFacts
mod Words
